-- The list of sequences has every sequence, each once.
use Rattle.std.proofs.Common.{◌≡◌, ℕ, zero, suc, ◌+◌, ◌*◌, ◌/◌, ◌%◌, ◌<◌, List, [], ◌∷◌, ◌++◌, map, length, get_or, sym, refl, ap, ◌∙◌, subst, ⊎_elim, suc-mul, mul_comm, mul-zero, zero-mul, arith}
use native.Mathlib.Nat.{mod-add-div}
use Rattle.std.specs.List.{flat_map}
use Rattle.std.proofs.lemmas.List.{length-append, length-map, length_push, get_or_append_left, get_or-append-add, get_or_push, get_or-map, same_from_push}
use Rattle.std.proofs.lemmas.Bool.{cases_lt}
use Rattle.std.proofs.lemmas.Nat.{mul-add-lt, div_below, mod_below}
use Rattle.charts.specs.Runs.{Symbols}
use Rattle.charts.proofs.RunsByLast.{symbols_last}
use Rattle.tables.specs.Sequences.{symbols, sequences, Sequence, Once, Listed}
use Rattle.tables.proofs.TableRecurrence.{all_append}

length_symbols : (k : ℕ) → length (symbols k) ≡ k
length_symbols zero = refl
length_symbols (suc k) = length_push (symbols k) k ∙ omega (arith, length_symbols k)

symbols_at : (k a : ℕ) → a < k → get_or (symbols k) a 0 ≡ a
symbols_at zero a h = absurd (omega arith)
symbols_at (suc k) a h =
    ⊎_elim
    (λ less. get_or_append_left (symbols k) (k ∷ []) 0 a (omega (arith, length_symbols k)) ∙ symbols_at k a less)
    (λ least. let e : a ≡ k = omega arith in get_or_push (symbols k) k 0 a (length_symbols k ∙ sym e) ∙ sym e)
    (cases_lt a k)

-- Rows of one length, laid end to end: a row and a column.
module _ {X Y : Type 0} (f : X → List Y) (k : ℕ) (long : (x : X) → length (f x) ≡ k) where
  length_joined : (xs : List X) → length (flat_map f xs) ≡ length xs * k
  length_joined [] = sym (zero-mul k)
  length_joined (x ∷ xs) = length-append (f x) (flat_map f xs) ∙ omega (arith, long x, length_joined xs, suc-mul (length xs) k)

  joined_at : (xs : List X) (i a : ℕ) (d : X) (e : Y) → i < length xs → a < k → get_or (flat_map f xs) (i * k + a) e ≡ get_or (f (get_or xs i d)) a e
  joined_at [] i a d e h b = absurd (omega arith)
  joined_at (x ∷ xs) zero a d e h b =
      ap (λ j. get_or (f x ++ flat_map f xs) j e) (omega (arith, zero-mul k))
      ∙ get_or_append_left (f x) (flat_map f xs) e a (omega (arith, long x))
  joined_at (x ∷ xs) (suc i) a d e h b =
      ap (λ j. get_or (f x ++ flat_map f xs) j e) (omega (arith, suc-mul i k, long x))
      ∙ get_or-append-add (f x) (flat_map f xs) (i * k + a) e
      ∙ joined_at xs i a d e (omega arith) b

-- The sequences that are one symbol longer than q.
abbrev longer : ℕ → List ℕ → List (List ℕ)
longer k q = map (λ a. q ++ a ∷ []) (symbols k)

-- A sequence that is not empty, by its last symbol.
record Pushed (q : List ℕ) : Type 0 where
  front : List ℕ
  last : ℕ
  is : q ≡ front ++ last ∷ []

pushed : (a : ℕ) (q : List ℕ) → Pushed (a ∷ q)
pushed a [] = record { front = []; last = a; is = refl }
pushed a (b ∷ q) = let p = pushed b q in record { front = a ∷ p.front; last = p.last; is = ap (λ r. a ∷ r) p.is }

length_longer : (k : ℕ) (q : List ℕ) → length (longer k q) ≡ k
length_longer k q = length-map (symbols k) (λ a. q ++ a ∷ []) ∙ length_symbols k

longer_at : (k : ℕ) (q : List ℕ) (a : ℕ) → a < k → get_or (longer k q) a [] ≡ q ++ a ∷ []
longer_at k q a h =
    get_or-map (λ b. q ++ b ∷ []) (symbols k) a 0 [] (omega (arith, length_symbols k))
    ∙ ap (λ b. q ++ b ∷ []) (symbols_at k a h)

-- Two places of a grid of rows of length k are one where row and column are.
same_place : (k i p a : ℕ) → i / k ≡ p → i % k ≡ a → i ≡ p * k + a
same_place k i p a row column = omega (arith, mod-add-div i k, mul_comm k (i / k), ap (λ z. z * k) row, column)

module _ (k n : ℕ) (shorter : Listed k n) where
  grid_length : length (sequences k (suc n)) ≡ length (sequences k n) * k
  grid_length = length_joined (longer k) k (length_longer k) (sequences k n)

  grid_at : (i a : ℕ) → i < length (sequences k n) → a < k → get_or (sequences k (suc n)) (i * k + a) [] ≡ get_or (sequences k n) i [] ++ a ∷ []
  grid_at i a h b = joined_at (longer k) k (length_longer k) (sequences k n) i a [] [] h b ∙ longer_at k (get_or (sequences k n) i []) a b

  some_column : (i : ℕ) → i < length (sequences k (suc n)) → 0 < k
  some_column i h =
      ⊎_elim (λ p. p) (λ none. absurd (omega (arith, grid_length, ap (λ z. length (sequences k n) * z) (let e : k ≡ 0 = omega arith in e), mul-zero (length (sequences k n))))) (cases_lt 0 k)

  row_below : (i : ℕ) → i < length (sequences k (suc n)) → i / k < length (sequences k n)
  row_below i h = div_below i k (length (sequences k n)) (some_column i h) (omega (arith, grid_length))

  column_below : (i : ℕ) → i < length (sequences k (suc n)) → i % k < k
  column_below i h = mod_below i k (some_column i h)

  -- What stands at a place, by its row and its column.
  entry_at : (i : ℕ) → i < length (sequences k (suc n)) → get_or (sequences k (suc n)) i [] ≡ get_or (sequences k n) (i / k) [] ++ (i % k) ∷ []
  entry_at i h =
      ap (λ j. get_or (sequences k (suc n)) j []) (same_place k i (i / k) (i % k) refl refl)
      ∙ grid_at (i / k) (i % k) (row_below i h) (column_below i h)

  longer_sequence : (q : List ℕ) (a : ℕ) → Sequence k n q → a < k → Sequence k (suc n) (q ++ a ∷ [])
  longer_sequence q a s b = record {
    long = length_push q a ∙ omega (arith, s.long);
    over = all_append (λ c. c < k) q (a ∷ []) s.over (b, tt);
  }

  shorter_sequence : (q front : List ℕ) (a : ℕ) → q ≡ front ++ a ∷ [] → Sequence k (suc n) q → Sequence k n front × (a < k)
  shorter_sequence q front a is s =
      let parts = symbols_last k front a (subst (Symbols k) is s.over) in
      let size : length front + 1 ≡ suc n = sym (length_push front a) ∙ ap length (sym is) ∙ s.long in
      (record { long = omega arith; over = parts.0 }, parts.1)

  once_longer : (q front : List ℕ) (a : ℕ) → q ≡ front ++ a ∷ [] → Sequence k (suc n) q → Once q (sequences k (suc n))
  once_longer q front a is s =
      let parts = shorter_sequence q front a is s in
      let here = shorter.every front parts.0 in
      let p = here.place in
      let b : a < k = parts.1 in
      record {
        place = p * k + a;
        within = omega (arith, grid_length, mul-add-lt p k a (length (sequences k n)) here.within b, mul_comm k (length (sequences k n)));
        there = grid_at p a here.within b ∙ ap (λ r. r ++ a ∷ []) here.there ∙ sym is;
        only = λ i h e.
            let same = same_from_push (get_or (sequences k n) (i / k) []) front (i % k) a (sym (entry_at i h) ∙ e ∙ is) in
            same_place k i p a (here.only (i / k) (row_below i h) same.0) same.1;
      }

  every_longer : (q : List ℕ) → Sequence k (suc n) q → Once q (sequences k (suc n))
  every_longer [] s = absurd (omega (arith, s.long))
  every_longer (b ∷ q) s = let p = pushed b q in once_longer (b ∷ q) p.front p.last p.is s

  pub listed_more : Listed k (suc n)
  listed_more = record {
    every = every_longer;
    else_none = λ i h. subst (Sequence k (suc n)) (sym (entry_at i h)) (longer_sequence _ _ (shorter.else_none (i / k) (row_below i h)) (column_below i h));
  }

once_empty : (k : ℕ) (q : List ℕ) → Sequence k 0 q → Once q (sequences k 0)
once_empty k [] s = record { place = 0; within = omega arith; there = refl; only = λ i h e. omega arith }
once_empty k (a ∷ q) s = absurd (omega (arith, s.long))

empty_only : (k i : ℕ) → i < 1 → Sequence k 0 (get_or ([] ∷ []) i [])
empty_only k zero h = record { long = refl; over = tt }
empty_only k (suc i) h = absurd (omega arith)

pub listed : (k n : ℕ) → Listed k n
listed k zero = record { every = once_empty k; else_none = empty_only k }
listed k (suc n) = listed_more k n (listed k n)
