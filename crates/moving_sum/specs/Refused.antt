-- The number of each refusal of the program.
use Rattle.std.specs.Prelude.{ℕ}
use Rattle.charts.specs.Refusal.{number as parameter_number}
use Rattle.tables.specs.Refusal.{number as table_number}
use Rattle.moving_sum.specs.declared.refused.Refused.{Refused}
use Rattle.moving_sum.specs.declared.refused.Refused.TheVariants.{Parameter, Table}

abbrev pub refused_number : Refused → ℕ
refused_number (Parameter refusal) = parameter_number refusal
refused_number (Table refusal) = table_number refusal
