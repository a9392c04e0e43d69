use Rattle.std.proofs.Common.{ℕ, ◌<◌, ◌≤◌}
use Rattle.stoplimit.specs.Bed.{requirements}
use Rattle.stoplimit.specs.Workspace.{Lasts}
use Rattle.tables.specs.Fit.{Fit}
use Rattle.stoplimit.proofs.designer.Designer.least_fit.Given as goal

abbrev pub invariant-loop-limit : goal.invariant-loop-limit
invariant-loop-limit g l = record {
  none_below : (h : ℕ) → l.self.bed.now.lowest ≤ h → h < l.limit → Fit (g.C.Chart.meaning l.self.chart.now) (requirements l.self.bed.now) h → ⊥;
  rows : Lasts l.initial.space l.space;
}
