-- The number of each refusal of the table call, and its checks.
use Rattle.std.specs.Prelude.{◌≡◌, ℕ, ◌<◌, ◌⊎◌, List, [], ◌∷◌}
use Rattle.charts.specs.Checks.{Check, ◌if◌}
use Rattle.tables.specs.declared.refusal.Refusal.{Refusal}
use Rattle.tables.specs.declared.refusal.Refusal.TheVariants.{OutOfBounds, ShortRow, NoStates}

abbrev pub number : Refusal → ℕ
number OutOfBounds = 41
number ShortRow = 42
number NoStates = 43

-- The checks of a table of n courses with i weights, rows of a and b cells, and c states.
abbrev pub table_checks : ℕ → ℕ → ℕ → ℕ → ℕ → List Check
table_checks i n a b c =
    41 if ((i ≡ 0) ⊎ ((16 < i) ⊎ (40 < n)))
    ∷ 42 if ((a < 1024) ⊎ (b < 1024))
    ∷ 43 if (c ≡ 0)
    ∷ []
