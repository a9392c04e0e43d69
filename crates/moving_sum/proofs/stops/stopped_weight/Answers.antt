use Rattle.std.proofs.Common.{[], ◌∷◌, ap, ◌∙◌, lit<}
use Rattle.tables.specs.Table.{caught_from}
use Rattle.moving_sum.specs.Stops.{stops}
use Rattle.moving_sum.proofs.stops.stopped_weight.Goals as goal

pub returns : goal.returns
unfolding stops caught_from
returns g c =
    let e = c.in_ok-table.ensures in
    let m = (g.C.Chart.meaning c.args.chart.now).moves in
    ((e.answer.0.1.1.0, tt), ap (λ x. x.value) e.answer.1.caught_is ∙ (e.exact (m.start c.args.limit)).plain (2 ∷ 1 ∷ 1 ∷ []) (lit< tt))
