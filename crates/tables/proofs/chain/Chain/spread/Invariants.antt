use Rattle.tables.specs.Fill.{free_share, alarm_share}
use Rattle.tables.proofs.FillTurns.{Gathered}
use Rattle.tables.proofs.chain.Chain.spread.Given as goal

abbrev pub invariant-loop-symbol : goal.invariant-loop-symbol
invariant-loop-symbol g l =
    let k = g.S.Semiring.kind in
    let m = (g.C.Chart.meaning l.self.chart.now).moves in
    Gathered k (λ t. free_share k m l.self.limit l.self.weights.now t l.state l.value) (alarm_share k m l.self.limit l.self.weights.now l.state l.value) l.initial.row l.initial.caught l.symbol l.row l.caught
