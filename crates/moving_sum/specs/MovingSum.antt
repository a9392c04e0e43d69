-- The meaning of a moving sum of two courses, and its law over whole sequences.
use Rattle.std.specs.Prelude.{◌≡◌, ℕ, ◌+◌, ◌*◌, ◌/◌, ◌%◌, ◌≤◌, true, if◌then◌else◌, ◌&&◌, ◌↔◌, List, reverse, take, sum, nat_le, nat_lt}
use Rattle.charts.specs.Meaning.{Meaning, Moves}
use Rattle.charts.specs.Ranges.{valid, within}
use Rattle.charts.specs.Runs.{Symbols, alarms_after}

-- The states are the last two symbols, the newest lowest, from 0 and 0; a state alarms when they add up
-- to the limit or more.
abbrev pub moving_sum : Meaning
moving_sum =
    let n : ℕ → ℕ = λ h. if valid h then 256 else 0 in
    record {
      count = n;
      moves = record {
        start = λ h. 0;
        step = λ h s a. if within (n h) s a then s % 16 * 16 + a else 0;
        alarm = λ h s. nat_lt s (n h) && nat_le h (s / 16 + s % 16);
      };
    }

-- At each limit from 1 to 1,023 the state after a sequence of symbols below 16 alarms exactly when its
-- newest two symbols, or the one where there is one only, add up to the limit or more.
pub record AlarmsBySum (m : Moves) : Type 0 where
  pub exactly : (h : ℕ) → 1 ≤ h → h ≤ 1023 → (q : List ℕ) → Symbols 16 q → (alarms_after m h q ≡ true) ↔ (h ≤ sum (take 2 (reverse q)))
