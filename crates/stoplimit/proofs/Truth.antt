-- Counts as true numbers.
use Rattle.std.proofs.Common.{◌≡◌, ℕ, ◌^◌, ◌≤◌, List, map, sum, ap, ◌∙◌, arith}
use Rattle.charts.specs.Meaning.{Moves}
use Rattle.weights.specs.declared.values.Count.{Count}
use Rattle.weights.specs.Kinds.{count, counts}
use Rattle.tables.specs.Exact.{naturals}
use Rattle.tables.specs.Table.{caught_from}
use Rattle.tables.proofs.ExactCounts.{exact}

-- A count is the true number where the weight of all sequences is small, and is small too.
pub true_value : (m : Moves) (h s : ℕ) (w : List ℕ) (n : ℕ) (c : Count) → sum w ^ n ≤ 2 ^ 40 → c ≡ caught_from counts m h s (map count w) n → c.value ≡ caught_from naturals m h s w n
true_value m h s w n c small is = ap (λ x. x.value) is ∙ (exact m h s n).plain w (omega arith)

pub true_bound : (m : Moves) (h s : ℕ) (w : List ℕ) (n : ℕ) (c : Count) → sum w ^ n ≤ 2 ^ 40 → c ≡ caught_from counts m h s (map count w) n → c.value ≤ 2 ^ 40
true_bound m h s w n c small is = omega (arith, true_value m h s w n c small is, (exact m h s n).whole w)
