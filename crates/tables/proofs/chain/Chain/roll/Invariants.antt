use Rattle.tables.specs.Roll.{Rolled}
use Rattle.tables.specs.Row.{held, Lasting}
use Rattle.tables.proofs.chain.Chain.roll.Given as goal

abbrev pub invariant-loop-done : goal.invariant-loop-done
invariant-loop-done g l =
    let m = (g.C.Chart.meaning l.self.chart.now).moves in
    Rolled g.S.Semiring.kind m l.self.limit (m.start l.self.limit) l.self.count l.self.weights.now l.done (held l.initial.first) (held l.initial.second) (held l.first) (held l.second) l.caught
    × Lasting l.initial.first l.first
    × Lasting l.initial.second l.second
