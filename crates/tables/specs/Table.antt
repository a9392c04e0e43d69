-- The table of Brook and Evans, as joins over all sequences.
use Rattle.std.specs.Prelude.{◌≡◌, ℕ, ◌%◌, ◌<◌, Bool, if◌then◌else◌, not, ◌&&◌, List, [], ◌∷◌, length, drop, ◌==◌, slice_index_or}
use Rattle.charts.specs.Meaning.{Moves, Meaning}
use Rattle.charts.specs.Runs.{run_from, stops_from}
use Rattle.weights.specs.Laws.{Algebra}
use Rattle.tables.specs.Row.{Free, sided}
use Rattle.tables.specs.Sequences.{sequences, weight}

-- The join of f over the elements that pass the test p.
abbrev pub join_over : {S X : Type 0} → Algebra S → (X → Bool) → (X → S) → List X → S
join_over k p f [] = k.zero
join_over k p f (x ∷ xs) = if p x then k.join (f x) (join_over k p f xs) else join_over k p f xs

-- At the limit h, the join over all sequences of n symbols that go from the state s to the state t
-- unstopped; w has the weights of the symbols.
unfoldable pub table_at : {S : Type 0} → Algebra S → Moves → ℕ → ℕ → List S → ℕ → ℕ → S
table_at k m h s w n t = join_over k (λ q. not (stops_from m h s q) && run_from m h s q == t) (weight k w) (sequences (length w) n)

-- The join over all sequences of n symbols that are stopped from the state s.
unfoldable pub caught_from : {S : Type 0} → Algebra S → Moves → ℕ → ℕ → List S → ℕ → S
caught_from k m h s w n = join_over k (stops_from m h s) (weight k w) (sequences (length w) n)

-- What an accepted table call of n courses answers and leaves: the caught value c, the state count
-- and the side. The row of the side holds the table below the count and is unchanged from the count
-- on; the other row is free.
pub record Tabled {S : Type 0} (k : Algebra S) (m : Meaning) (h : ℕ) (w : List S) (n : ℕ) (first second first' second' : List S) (c : S) (count side : ℕ) : Type 0 where
  pub caught_is : c ≡ caught_from k m.moves h (m.moves.start h) w n
  pub count_is : count ≡ m.count h
  pub side_is : side ≡ n % 2
  pub table : (t : ℕ) → t < m.count h → slice_index_or (sided n first' second') t k.zero ≡ table_at k m.moves h (m.moves.start h) w n t
  pub past : drop (m.count h) (sided n first' second') ≡ drop (m.count h) (sided n first second)
  pub as_long : length (sided n first' second') ≡ length (sided n first second)
  pub other : Free (sided n second first) (sided n second' first')
