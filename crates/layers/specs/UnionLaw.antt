-- The law of a union over whole sequences.
use Rattle.std.specs.Prelude.{◌≡◌, ℕ, ◌+◌, ◌*◌, ◌<◌, ◌||◌, List}
use Rattle.charts.specs.Meaning.{Meaning}
use Rattle.charts.specs.Runs.{Symbols, end_state, alarms_after, stopped}

-- At each limit where the union u of p and q has states, for each sequence of symbols below 16: after
-- it the union is in the pair of their states, it alarms exactly when one of them does, and it stops
-- the sequence exactly when one of them does.
pub record StopsAsEither (p q u : Meaning) : Type 0 where
  pub pair : (h : ℕ) → 0 < u.count h → (w : List ℕ) → Symbols 16 w → end_state u.moves h w ≡ end_state p.moves h w * q.count h + end_state q.moves h w
  pub alarms : (h : ℕ) → 0 < u.count h → (w : List ℕ) → Symbols 16 w → alarms_after u.moves h w ≡ (alarms_after p.moves h w || alarms_after q.moves h w)
  pub stops : (h : ℕ) → 0 < u.count h → (w : List ℕ) → Symbols 16 w → stopped u.moves h w ≡ (stopped p.moves h w || stopped q.moves h w)
