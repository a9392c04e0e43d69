-- One turn of a loop that joins to the cells of a row and to the caught value: over the symbols, and
-- over the states.
use Rattle.std.proofs.Common.{◌≡◌, ℕ, ◌+◌, ◌<◌, Bool, true, false, List, ◌++◌, length, get_or, sym, refl, ap, ◌∙◌, subst, arith}
use Rattle.std.proofs.lemmas.List.{get_or_append_left}
use Rattle.weights.specs.Laws.{Algebra, Laws}
use Rattle.tables.specs.Fill.{join_below, guarded}
use Rattle.tables.proofs.Joins.{zero_join, join_below_more}

pub guarded_zero : {S : Type 0} (k : Algebra S) (b : Bool) → guarded k b k.zero ≡ k.zero
guarded_zero k true = refl
guarded_zero k false = refl

-- The row and the caught value after n turns, from those at the beginning: the turn i gives `cell t i`
-- to the cell t and `alarm i` to the caught value.
abbrev pub Gathered : {S : Type 0} → Algebra S → (ℕ → ℕ → S) → (ℕ → S) → List S → S → ℕ → List S → S → Type 0
Gathered k cell alarm base c0 n row c =
    ((t : ℕ) → t < length row → get_or row t k.zero ≡ k.join (get_or base t k.zero) (join_below k (cell t) n))
    × (c ≡ k.join c0 (join_below k alarm n))

module _ {S : Type 0} (k : Algebra S) (l : Laws k) where
  -- One term more, joined at the end.
  gather : (f : ℕ → S) (n : ℕ) (c0 c c' y : S) → c ≡ k.join c0 (join_below k f n) → c' ≡ k.join c y → f n ≡ y → c' ≡ k.join c0 (join_below k f (n + 1))
  gather f n c0 c c' y before now is =
      now
      ∙ ap (λ z. k.join z y) before
      ∙ l.join_assoc c0 (join_below k f n) y
      ∙ ap (k.join c0) (ap (k.join (join_below k f n)) (sym is) ∙ sym (join_below_more k f n))

  module _ (cell : ℕ → ℕ → S) (alarm : ℕ → S) (base : List S) (c0 : S) (n : ℕ) (row : List S) (c : S) (so : Gathered k cell alarm base c0 n row c) where
    -- A turn that joins x to the cells and y to the caught value.
    pub turn_more : (x : ℕ → S) (y : S) → ((t : ℕ) → cell t n ≡ x t) → alarm n ≡ y → (row' row'' : List S) (c' c'' : S) → row'' ≡ row' → c'' ≡ c' → length row' ≡ length row → ((t : ℕ) → t < length row' → get_or row' t k.zero ≡ k.join (get_or row t k.zero) (x t)) → c' ≡ k.join c y → Gathered k cell alarm base c0 (n + 1) row'' c''
    turn_more x y cells is row' row'' c' c'' same still long more moved = (
      λ t b.
          let inside : t < length row' = subst (λ r. t < length r) same b in
          ap (λ r. get_or r t k.zero) same ∙ gather (cell t) n (get_or base t k.zero) (get_or row t k.zero) (get_or row' t k.zero) (x t) (so.0 t (omega arith)) (more t inside) (cells t),
      still ∙ gather alarm n c0 c c' y so.1 moved is,
    )

    -- A turn that is passed over, since it would join zeros.
    pub turn_none : ((t : ℕ) → cell t n ≡ k.zero) → alarm n ≡ k.zero → (row' : List S) (c' : S) → row' ≡ row → c' ≡ c → Gathered k cell alarm base c0 (n + 1) row' c'
    turn_none cells is row' c' same still =
        turn_more (λ _. k.zero) k.zero cells is row row' c c' same still refl (λ t b. sym (l.join_zero _)) (sym (l.join_zero c))

  -- After the last of n turns, the first n cells of a row that was clear.
  pub filled : (cell : ℕ → ℕ → S) (i n : ℕ) (base row past : List S) → i ≡ n → length row ≡ n → ((t : ℕ) → t < length row → get_or row t k.zero ≡ k.join (get_or base t k.zero) (join_below k (cell t) i)) → (t : ℕ) → t < n → get_or base t k.zero ≡ k.zero → get_or (row ++ past) t k.zero ≡ join_below k (cell t) n
  filled cell i n base row past last long cells t b clean =
      get_or_append_left row past k.zero t (omega arith)
      ∙ cells t (omega arith)
      ∙ ap (λ y. k.join y (join_below k (cell t) i)) clean
      ∙ zero_join k l _
      ∙ ap (join_below k (cell t)) last
