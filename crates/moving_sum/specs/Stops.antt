-- What the program prints of a chart.
use Rattle.std.specs.Prelude.{◌≡◌, ℕ, List, [], ◌∷◌}
use Rattle.charts.specs.Checks.{Check, ◌if◌}
use Rattle.charts.specs.Meaning.{Meaning}
use Rattle.tables.specs.Exact.{naturals}
use Rattle.tables.specs.Table.{caught_from}

-- The weight of the stopped sequences of three courses, with the weights 2 1 1 of the symbols.
unfoldable pub stops : Meaning → ℕ → ℕ
stops m h = caught_from naturals m.moves h (m.moves.start h) (2 ∷ 1 ∷ 1 ∷ []) 3

-- A chart without states is refused.
abbrev pub stops_checks : Meaning → ℕ → List Check
stops_checks m h = 43 if (m.count h ≡ 0) ∷ []
