use Rattle.std.proofs.Common.{get_or}
use Rattle.tables.specs.Fill.{into, alarming}
use Rattle.tables.proofs.FillTurns.{Gathered}
use Rattle.tables.proofs.chain.Chain.advance.Given as goal

abbrev pub invariant-loop-state : goal.invariant-loop-state
invariant-loop-state g l =
    let k = g.S.Semiring.kind in
    let m = (g.C.Chart.meaning l.self.chart.now).moves in
    Gathered k (λ t s. into k m l.self.limit l.self.weights.now t s (get_or l.from s k.zero)) (λ s. alarming k m l.self.limit l.self.weights.now s (get_or l.from s k.zero)) l.initial.row l.initial.sum l.state l.row l.sum
