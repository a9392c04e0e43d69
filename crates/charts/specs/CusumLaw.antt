-- The law of a cusum over whole sequences.
use Rattle.std.specs.Prelude.{◌≡◌, ℕ, ◌≤◌, true, ◌↔◌, List, [], ◌∷◌, ◌++◌, ℤ, pos, ◌+ℤ◌, ◌≤ℤ◌, slice_index_or}
use Rattle.charts.specs.Meaning.{Moves}
use Rattle.charts.specs.Runs.{Symbols, stopped}

-- The scores of some courses, added up.
abbrev pub total : List ℤ → List ℕ → ℤ
total scores [] = pos 0
total scores (a ∷ q) = slice_index_or scores a (pos 0) +ℤ total scores q

-- Some block of consecutive courses of q has scores that add up to h or more.
pub record Heavy (scores : List ℤ) (h : ℕ) (q : List ℕ) : Type 0 where
  pub before : List ℕ
  pub block : List ℕ
  pub after : List ℕ
  pub is : q ≡ before ++ (block ++ after)
  pub heavy : pos h ≤ℤ total scores block

-- At each limit from 1 to 1,023 a sequence of symbols below 16 is stopped exactly when some block
-- of it is heavy.
pub record StopsByBlocks (scores : List ℤ) (m : Moves) : Type 0 where
  pub exactly : (h : ℕ) → 1 ≤ h → h ≤ 1023 → (q : List ℕ) → Symbols 16 q → (stopped m h q ≡ true) ↔ Heavy scores h q
