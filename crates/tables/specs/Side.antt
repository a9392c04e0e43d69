-- The number of a side.
use Rattle.std.specs.Prelude.{ℕ}
use Rattle.tables.specs.declared.side.Side.{Side}
use Rattle.tables.specs.declared.side.Side.TheVariants.{First, Second}

abbrev pub side_number : Side → ℕ
side_number First = 0
side_number Second = 1
