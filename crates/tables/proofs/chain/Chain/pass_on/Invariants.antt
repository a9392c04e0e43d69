use Rattle.std.proofs.Common.{◌≡◌, get_or}
use Rattle.tables.specs.Fill.{join_below}
use Rattle.tables.proofs.chain.Chain.pass_on.Given as goal

abbrev pub invariant-loop-weight : goal.invariant-loop-weight
invariant-loop-weight g l = let k = g.S.Semiring.kind in l.sum ≡ join_below k (λ a. k.product l.value (get_or l.self.weights.now a k.zero)) l.weight-index
