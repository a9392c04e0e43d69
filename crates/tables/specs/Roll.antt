-- What the two rows hold while the table is rolled.
use Rattle.std.specs.Prelude.{◌≡◌, ℕ, ◌<◌, List, drop, slice_index_or}
use Rattle.charts.specs.Meaning.{Moves}
use Rattle.weights.specs.Laws.{Algebra}
use Rattle.tables.specs.Row.{sided}
use Rattle.tables.specs.Table.{table_at, caught_from}

-- After n courses from the state s: the row of their side holds the table in its first cells, one
-- for each state, and both rows are as they were from there on.
pub record Rolled {S : Type 0} (k : Algebra S) (m : Moves) (h s count : ℕ) (w : List S) (n : ℕ) (first second first' second' : List S) (c : S) : Type 0 where
  pub filled : (t : ℕ) → t < count → slice_index_or (sided n first' second') t k.zero ≡ table_at k m h s w n t
  pub first_past : drop count first' ≡ drop count first
  pub second_past : drop count second' ≡ drop count second
  pub caught_is : c ≡ caught_from k m h s w n
