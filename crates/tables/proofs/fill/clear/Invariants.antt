use Rattle.std.proofs.Common.{◌≡◌, ℕ, ◌<◌, get_or}
use Rattle.tables.proofs.fill.clear.Given as goal

abbrev pub invariant-loop-cell : goal.invariant-loop-cell
invariant-loop-cell g l = (t : ℕ) → t < l.cell-index → get_or l.row t g.S.Semiring.kind.zero ≡ g.S.Semiring.kind.zero
