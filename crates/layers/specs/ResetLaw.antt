-- The law of a reset over whole sequences.
use Rattle.std.specs.Prelude.{◌≡◌, ℕ, ◌<◌, ◌≤◌, true, false, List, length, take, drop}
use Rattle.charts.specs.Meaning.{Moves}
use Rattle.charts.specs.Runs.{end_state, alarms_after}

-- No course after the i-th and before the last is one at which m alarmed; courses count from 1.
abbrev pub QuietSince : ℕ → Moves → ℕ → List ℕ → Type 0
QuietSince i m h q = (j : ℕ) → i < j → j < length q → alarms_after m h (take j q) ≡ false

-- The i-th course is the latest before the last at which m alarmed.
pub record LatestAlarm (i : ℕ) (m : Moves) (h : ℕ) (q : List ℕ) : Type 0 where
  pub course : 1 ≤ i
  pub before_last : i < length q
  pub alarmed : alarms_after m h (take i q) ≡ true
  pub quiet : QuietSince i m h q

-- At each limit and for each sequence, a reset u over p ends where p does after only the symbols that
-- follow the latest course before the last at which u alarmed; after all of them where there is none.
pub record BeginsAnew (p u : Moves) : Type 0 where
  pub after_alarm : (h i : ℕ) (q : List ℕ) → LatestAlarm i u h q → end_state u h q ≡ end_state p h (drop i q)
  pub without_alarm : (h : ℕ) (q : List ℕ) → QuietSince 0 u h q → end_state u h q ≡ end_state p h q
