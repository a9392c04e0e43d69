use Rattle.std.proofs.Common.{refl}
use Rattle.tables.specs.Row.{held}
use Rattle.tables.proofs.RollCourses.{roll_none}
use Rattle.tables.proofs.chain.Chain.roll.Goals as goal

pub loop-done-init : goal.loop-done-init
loop-done-init g c =
    let m = (g.C.Chart.meaning c.args.self.chart.now).moves in (
      roll_none g.S.Semiring.kind g.met.S.Semiring.laws m c.args.self.limit (m.start c.args.self.limit) c.args.self.count c.args.self.weights.now
          (held c.start_at.new.self) (held c.args.second.now) c.zero-caught.result c.start_at.ensures.cells c.zero-caught.ensures,
      record { as_long = refl; named = refl },
      record { as_long = refl; named = refl },
    )
