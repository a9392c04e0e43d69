-- The meaning of a confirmation, and when its parameter is refused.
use Rattle.std.specs.Prelude.{ℕ, ◌+◌, min, if◌then◌else◌, List, [], ◌∷◌, ◌==◌}
use Rattle.charts.specs.Checks.{Check, ◌if◌, IsOutOfRange}
use Rattle.charts.specs.Meaning.{Meaning}
use Rattle.layers.specs.Pairs.{Pairs, coded}

-- The checks of c.
abbrev pub repeats_checks : ℕ → List Check
repeats_checks c = 23 if IsOutOfRange 1 8 c ∷ []

-- A chart, and a number j from 0 to c that is 0 at the start: a step to a state that alarms below takes
-- it to j + 1, at most to c, and a step to any other state takes it to 0; the pair alarms when j is c.
abbrev pub in_a_row : ℕ → Meaning → Pairs
in_a_row c p = record {
  lefts = p.count;
  rights = λ h. c + 1;
  left_start = p.moves.start;
  right_start = λ h. 0;
  left_step = p.moves.step;
  right_step = λ h x j a. if p.moves.alarm h (p.moves.step h x a) then min (j + 1) c else 0;
  alarm = λ h x j. (j == c);
}

-- The confirmation: the chart of these pairs.
abbrev pub confirm : ℕ → Meaning → Meaning
confirm c p = coded (in_a_row c p)
