use Rattle.std.proofs.Common.{◌≡◌, replicate}
use Rattle.charts.specs.Runs.{end_state}
use Rattle.layers.proofs.head_start.HeadStartChart.start.Given as goal

abbrev pub invariant-loop-read : goal.invariant-loop-read
invariant-loop-read g l = l.state ≡ end_state (g.C.Chart.meaning l.self.below).moves l.limit (replicate l._read l.self.lead.symbol)
