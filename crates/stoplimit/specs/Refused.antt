-- The number of each refusal of the program.
use Rattle.std.specs.Prelude.{ℕ}
use Rattle.charts.specs.Refusal.{number}
use Rattle.stoplimit.specs.declared.refused.Refused.{Refused}
use Rattle.stoplimit.specs.declared.refused.Refused.TheVariants.{Parameter, NoFitLimit}

abbrev pub refused_number : Refused → ℕ
refused_number (Parameter refusal) = number refusal
refused_number NoFitLimit = 15
