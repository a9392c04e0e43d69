-- The number of each refusal of a chart's parameter.
use Rattle.std.specs.Prelude.{ℕ}
use Rattle.charts.specs.declared.refusal.Refusal.{Refusal}
use Rattle.charts.specs.declared.refusal.Refusal.TheVariants.{OutOfRange, HitsAboveWindow}

abbrev pub number : Refusal → ℕ
number OutOfRange = 23
number HitsAboveWindow = 27
