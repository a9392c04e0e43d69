-- What a call leaves of a workspace.
use Rattle.stoplimit.specs.declared.workspace.Workspace.{Workspace}
use Rattle.tables.specs.Row.{Lasting}
use Rattle.weights.specs.declared.semiring.Semiring.{Ghosts}

-- Both rows are as long as they were, and still over the same cells.
pub record Lasts {S : Type 0} {G : Ghosts S} (old new : Workspace S G) : Type 0 where
  pub first : Lasting old.rows.first new.rows.first
  pub second : Lasting old.rows.second new.rows.second
