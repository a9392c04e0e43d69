-- All sequences of a length over some symbols, and the weight of one.
use Rattle.std.specs.Prelude.{◌≡◌, ℕ, zero, suc, ◌<◌, List, [], ◌∷◌, ◌++◌, map, length, slice_index_or}
use Rattle.std.specs.List.{flat_map}
use Rattle.charts.specs.Runs.{Symbols}
use Rattle.weights.specs.Laws.{Algebra}

-- The symbols 0 to k - 1.
abbrev pub symbols : ℕ → List ℕ
symbols zero = []
symbols (suc k) = symbols k ++ k ∷ []

-- Every sequence of n symbols below k: each one shorter, followed by each symbol.
abbrev pub sequences : ℕ → ℕ → List (List ℕ)
sequences k zero = [] ∷ []
sequences k (suc n) = flat_map (λ q. map (λ a. q ++ a ∷ []) (symbols k)) (sequences k n)

-- q is a sequence of n symbols below k.
pub record Sequence (k n : ℕ) (q : List ℕ) : Type 0 where
  pub long : length q ≡ n
  pub over : Symbols k q

-- q stands in the list, at one place only.
pub record Once (q : List ℕ) (list : List (List ℕ)) : Type 0 where
  pub place : ℕ
  pub within : place < length list
  pub there : slice_index_or list place [] ≡ q
  pub only : (i : ℕ) → i < length list → slice_index_or list i [] ≡ q → i ≡ place

-- The list of sequences has every sequence of n symbols below k, each once, and nothing else.
pub record Listed (k n : ℕ) : Type 0 where
  pub every : (q : List ℕ) → Sequence k n q → Once q (sequences k n)
  pub else_none : (i : ℕ) → i < length (sequences k n) → Sequence k n (slice_index_or (sequences k n) i [])

-- The product of the weights of a sequence's symbols, in order, from x.
abbrev pub product_from : {S : Type 0} → Algebra S → List S → S → List ℕ → S
product_from k w x [] = x
product_from k w x (a ∷ q) = product_from k w (k.product x (slice_index_or w a k.zero)) q

-- The weight of a sequence: that product from one.
abbrev pub weight : {S : Type 0} → Algebra S → List S → List ℕ → S
weight k w q = product_from k w k.one q
