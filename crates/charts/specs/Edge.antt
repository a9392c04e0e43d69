-- The edge of a zone, and which symbols are members.
use Rattle.std.specs.Prelude.{ℕ, Bool, true, nat_le}
use Rattle.charts.specs.declared.edge.Edge.{Edge}
use Rattle.charts.specs.declared.edge.Edge.TheVariants.{At, Limit}

-- Whether an edge is in range: a number from 0 to 16, or the limit.
abbrev pub edge_fits : Edge → Bool
edge_fits (At n) = nat_le n 16
edge_fits Limit = true

-- Whether the symbol a is a member at the limit h: it is at or above the edge.
abbrev pub member : Edge → ℕ → ℕ → Bool
member (At n) h a = nat_le n a
member Limit h a = nat_le h a
