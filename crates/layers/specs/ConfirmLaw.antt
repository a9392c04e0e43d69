-- The law of a confirmation over whole sequences.
use Rattle.std.specs.Prelude.{◌≡◌, ℕ, ◌-◌, ◌<◌, ◌≤◌, true, ◌↔◌, List, length, take}
use Rattle.charts.specs.Meaning.{Moves, Meaning}
use Rattle.charts.specs.Runs.{Symbols, alarms_after}

-- The sequence has at least c courses, and the state after each of its last c courses alarms.
pub record Confirmed (c : ℕ) (m : Moves) (h : ℕ) (q : List ℕ) : Type 0 where
  pub enough : c ≤ length q
  pub each : (i : ℕ) → i < c → alarms_after m h (take (length q - i) q) ≡ true

-- At each limit where the confirmation u of p has states, it alarms after a sequence of symbols below
-- 16 exactly when the sequence has c courses and p alarms after each of its last c.
pub record AlarmsInARow (c : ℕ) (p u : Meaning) : Type 0 where
  pub exactly : (h : ℕ) → 0 < u.count h → (q : List ℕ) → Symbols 16 q → (alarms_after u.moves h q ≡ true) ↔ Confirmed c p.moves h q
