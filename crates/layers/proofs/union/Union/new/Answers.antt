use Rattle.layers.proofs.UnionRuns.{union_stops}
use Rattle.layers.proofs.union.Union.new.Goals as goal

pub returns-clause-law : goal.returns-clause-law
returns-clause-law g c = union_stops _ _ (g.A.Chart.sound c.args.first) (g.B.Chart.sound c.args.second)
