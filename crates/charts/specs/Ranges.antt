-- The ranges past which a chart answers 0.
use Rattle.std.specs.Prelude.{ℕ, Bool, ◌&&◌, nat_le, nat_lt}

-- A limit at which a chart may have states.
abbrev pub valid : ℕ → Bool
valid h = nat_le 1 h && nat_le h 1023

-- A state below the count n, and a symbol below 16.
abbrev pub within : ℕ → ℕ → ℕ → Bool
within n s a = nat_lt s n && nat_lt a 16
