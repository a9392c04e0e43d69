-- The costs of symbols as a list, for lists of any length.
use Rattle.std.proofs.Common.{◌≡◌, ℕ, zero, suc, ◌<◌, List, [], ◌∷◌, length, get_or, refl, ap, arith}
use Rattle.weights.specs.Kinds.{costs}
use Rattle.tables.specs.Figures.{cost_weight, cost_weights}

pub length_cost_weights : (ws cs : List ℕ) → length cs ≡ length ws → length (cost_weights ws cs) ≡ length ws
length_cost_weights [] cs e = refl
length_cost_weights (w ∷ ws) [] e = absurd (omega arith)
length_cost_weights (w ∷ ws) (c ∷ cs) e = ap suc (length_cost_weights ws cs (omega arith))

pub get_or_cost_weights : (ws cs : List ℕ) → length cs ≡ length ws → (k : ℕ) → k < length ws → get_or (cost_weights ws cs) k costs.zero ≡ cost_weight (get_or ws k 0) (get_or cs k 0)
get_or_cost_weights [] cs e k h = absurd (omega arith)
get_or_cost_weights (w ∷ ws) [] e k h = absurd (omega arith)
get_or_cost_weights (w ∷ ws) (c ∷ cs) e zero h = refl
get_or_cost_weights (w ∷ ws) (c ∷ cs) e (suc k) h = get_or_cost_weights ws cs (omega arith) k (omega arith)
