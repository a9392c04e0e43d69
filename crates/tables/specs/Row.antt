-- Working rows: what one holds, what a call leaves of it, and the row of a side.
use Rattle.std.specs.Prelude.{◌≡◌, ℕ, ◌%◌, if◌then◌else◌, List, length, ◌==◌}
use Rattle.tables.specs.declared.row.Row.{Row}

-- The values that a row holds.
abbrev pub held : {S : Type 0} → Row S → List S
held r = r.cells.now

-- A row that is left free: it is as long as it was, and nothing is said of its values.
pub record Free {S : Type 0} (old new : List S) : Type 0 where
  pub as_long : length new ≡ length old

-- A row that is still over the same cells, as many as before.
pub record Lasting {S : Type 0} (old new : Row S) : Type 0 where
  pub as_long : length (held new) ≡ length (held old)
  pub named : new.cells.ghost_name ≡ old.cells.ghost_name

-- The one of two rows that is of the side n mod 2.
abbrev pub sided : {X : Type 0} → ℕ → X → X → X
sided n first second = if n % 2 == 0 then first else second
