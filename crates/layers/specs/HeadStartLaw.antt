-- The law of a head start over whole sequences.
use Rattle.std.specs.Prelude.{◌≡◌, ℕ, true, ◌↔◌, List, ◌++◌, replicate}
use Rattle.charts.specs.Meaning.{Moves}
use Rattle.charts.specs.Runs.{end_state, stopped, AlarmsWithin}

-- At each limit and for each sequence, a head start u over p ends where p does after the n lead
-- symbols a and the sequence, and stops the sequence exactly when p then alarms within it.
pub record Led (a n : ℕ) (p u : Moves) : Type 0 where
  pub ends : (h : ℕ) (q : List ℕ) → end_state u h q ≡ end_state p h (replicate n a ++ q)
  pub stops : (h : ℕ) (q : List ℕ) → (stopped u h q ≡ true) ↔ AlarmsWithin p h (replicate n a) q
