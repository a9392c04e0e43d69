-- The meaning of a head start, and when its parameters are refused.
use Rattle.std.specs.Prelude.{ℕ, ◌<◌, List, [], ◌∷◌, replicate}
use Rattle.charts.specs.Checks.{Check, ◌if◌}
use Rattle.charts.specs.Meaning.{Meaning}
use Rattle.charts.specs.Runs.{end_state}

-- The checks of a symbol and a lead count.
abbrev pub lead_checks : ℕ → ℕ → List Check
lead_checks a n = 23 if (15 < a) ∷ 23 if (32 < n) ∷ []

-- The start is the state below after n reads of the symbol a; the rest is as below.
abbrev pub head_start : ℕ → ℕ → Meaning → Meaning
head_start a n p = record {
  count = p.count;
  moves = record {
    start = λ h. end_state p.moves h (replicate n a);
    step = p.moves.step;
    alarm = p.moves.alarm;
  };
}
