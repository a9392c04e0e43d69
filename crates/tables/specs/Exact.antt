-- Counts modulo 2^64 as true whole numbers.
use Rattle.std.specs.Prelude.{◌≡◌, ℕ, ◌+◌, ◌*◌, ◌^◌, ◌<◌, not, List, map, length, sum}
use Rattle.charts.specs.Meaning.{Moves}
use Rattle.charts.specs.Runs.{stops_from}
use Rattle.weights.specs.Laws.{Algebra}
use Rattle.weights.specs.Kinds.{count, counts}
use Rattle.tables.specs.Sequences.{sequences, weight}
use Rattle.tables.specs.Table.{join_over, caught_from}

-- The whole numbers with plain sum and product: a join over sequences is their plain sum.
abbrev pub naturals : Algebra ℕ
naturals = record { zero = 0; one = 1; join = ◌+◌; product = ◌*◌ }

-- The plain sum over all sequences that are not stopped from the state s.
unfoldable pub unstopped : Moves → ℕ → ℕ → List ℕ → ℕ → ℕ
unstopped m h s w n = join_over naturals (λ q. not (stops_from m h s q)) (weight naturals w) (sequences (length w) n)

-- For all weights: the caught value of the weights as counts is the plain sum over the stopped
-- sequences, wherever the total of the weights to the power of the length is below 2^64; and that
-- sum and the one over the unstopped sequences make up this power.
pub record Exact (m : Moves) (h s n : ℕ) : Type 0 where
  pub plain : (w : List ℕ) → sum w ^ n < 2 ^ 64 → (caught_from counts m h s (map count w) n).value ≡ caught_from naturals m h s w n
  pub whole : (w : List ℕ) → caught_from naturals m h s w n + unstopped m h s w n ≡ sum w ^ n
