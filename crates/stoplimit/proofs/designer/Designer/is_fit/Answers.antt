use Rattle.std.proofs.Common.{arith}
use Rattle.tables.specs.Figures.{good_caught, off_caught}
use Rattle.stoplimit.proofs.designer.Designer.is_fit.Goals as goal

pub returns-then-is_at_most-clause-fit : goal.returns-then-is_at_most-clause-fit
unfolding good_caught off_caught
returns-then-is_at_most-clause-fit g c = (
  λ e. record {
    some_states = omega (arith, c.count.ensures);
    few_states = (g.C.Chart.sound c.args.self.now.chart.now).count_most c.args.limit;
    few_stops = rw (← c.share.ensures.stopped, ← c.share.ensures.all) (c.is_at_most.ensures.0 c.if-is_at_most.true);
    enough_catches = rw (← c.share-then-is_at_most.ensures.stopped, ← c.share-then-is_at_most.ensures.all) (c.is_at_least.ensures.0 e);
  },
  λ f. c.is_at_least.ensures.1 (rw (c.share-then-is_at_most.ensures.stopped, c.share-then-is_at_most.ensures.all) f.enough_catches),
)

pub returns-else-is_at_most-clause-fit : goal.returns-else-is_at_most-clause-fit
unfolding good_caught off_caught
returns-else-is_at_most-clause-fit g c = (
  λ e. cc,
  λ f. c.is_at_most.ensures.1 (rw (c.share.ensures.stopped, c.share.ensures.all) f.few_stops),
)
