-- Joins over a semiring: over the numbers below n, and over the elements of a list that pass a test.
use Rattle.std.proofs.Common.{◌≡◌, ℕ, zero, suc, ◌+◌, ◌<◌, Bool, true, false, cond, ◌&&◌, eqb, List, [], ◌∷◌, ◌++◌, map, sym, refl, ap, ◌∙◌, subst, ⊎_elim, add-one, arith}
use Rattle.std.specs.List.{flat_map, AllByRecursion}
use Rattle.std.proofs.lemmas.List.{map-append}
use Rattle.std.proofs.lemmas.Bool.{cases_eq, eq-eqb, ne_eqb}
use Rattle.weights.specs.Laws.{Algebra, Laws}
use Rattle.tables.specs.Sequences.{symbols}
use Rattle.tables.specs.Fill.{join_below, guarded}
use Rattle.tables.specs.Table.{join_over}

pub join_below_more : {S : Type 0} (k : Algebra S) (f : ℕ → S) (n : ℕ) → join_below k f (n + 1) ≡ k.join (join_below k f n) (f n)
join_below_more k f n = ap (join_below k f) (add-one n)

-- A map of the weights that keeps zero and joins.
pub record Additive {S : Type 0} (k : Algebra S) (f : S → S) : Type 0 where
  pub at_zero : f k.zero ≡ k.zero
  pub at_join : (x y : S) → f (k.join x y) ≡ k.join (f x) (f y)

module _ {S : Type 0} (k : Algebra S) (l : Laws k) where
  pub zero_join : (x : S) → k.join k.zero x ≡ x
  zero_join x = l.join_comm k.zero x ∙ l.join_zero x

  -- (a + b) + (c + d) = (a + c) + (b + d)
  pub crossed : (a b c d : S) → k.join (k.join a b) (k.join c d) ≡ k.join (k.join a c) (k.join b d)
  crossed a b c d =
      l.join_assoc a b (k.join c d)
      ∙ ap (k.join a) (sym (l.join_assoc b c d) ∙ ap (λ x. k.join x d) (l.join_comm b c) ∙ l.join_assoc c b d)
      ∙ sym (l.join_assoc a c (k.join b d))

  pub join_below_zero : (n : ℕ) → join_below k (λ _. k.zero) n ≡ k.zero
  join_below_zero zero = refl
  join_below_zero (suc n) = l.join_zero _ ∙ join_below_zero n

  pub join_below_join : (f g : ℕ → S) (n : ℕ) → join_below k (λ i. k.join (f i) (g i)) n ≡ k.join (join_below k f n) (join_below k g n)
  join_below_join f g zero = sym (l.join_zero k.zero)
  join_below_join f g (suc n) = ap (λ x. k.join x (k.join (f n) (g n))) (join_below_join f g n) ∙ crossed _ _ _ _

  pub join_below_same : (f g : ℕ → S) (n : ℕ) → ((i : ℕ) → i < n → f i ≡ g i) → join_below k f n ≡ join_below k g n
  join_below_same f g zero e = refl
  join_below_same f g (suc n) e =
      ap (λ x. k.join x (f n)) (join_below_same f g n (λ i b. e i (omega arith))) ∙ ap (k.join (join_below k g n)) (e n (omega arith))

  -- Two functions that agree but at e, where one has x more.
  pub join_below_bump : (f g : ℕ → S) (x : S) (e n : ℕ) → e < n → f e ≡ k.join x (g e) → ((i : ℕ) → (i ≡ e → ⊥) → f i ≡ g i) → join_below k f n ≡ k.join x (join_below k g n)
  join_below_bump f g x e zero b here there = absurd (omega arith)
  join_below_bump f g x e (suc n) b here there =
      ⊎_elim
      (λ same.
      let at : f n ≡ k.join x (g n) = subst (λ i. f i ≡ k.join x (g i)) same here in
      ap (λ y. k.join y (f n)) (join_below_same f g n (λ i c. there i (omega arith)))
      ∙ ap (k.join (join_below k g n)) at
      ∙ sym (l.join_assoc _ x (g n)) ∙ ap (λ y. k.join y (g n)) (l.join_comm _ x) ∙ l.join_assoc x _ (g n))
      (λ other.
      ap (λ y. k.join y (f n)) (join_below_bump f g x e n (omega arith) here there)
      ∙ ap (k.join (k.join x (join_below k g n))) (there n (λ q. other (sym q)))
      ∙ l.join_assoc x _ (g n))
      (cases_eq e n)

  pub join_append : {X : Type 0} (p : X → Bool) (f : X → S) (xs ys : List X) → join_over k p f (xs ++ ys) ≡ k.join (join_over k p f xs) (join_over k p f ys)
  join_append p f [] ys = sym (zero_join _)
  join_append p f (x ∷ xs) ys =
      elim (p x) as (λ b. cond b (k.join (f x) (join_over k p f (xs ++ ys))) (join_over k p f (xs ++ ys)) ≡ k.join (cond b (k.join (f x) (join_over k p f xs)) (join_over k p f xs)) (join_over k p f ys)) [
        | true ↦ ap (k.join (f x)) (join_append p f xs ys) ∙ sym (l.join_assoc (f x) _ _)
        | false ↦ join_append p f xs ys
      ]

  -- A list's join, one element at a time: each gives its weight or zero.
  pub join_cons : {X : Type 0} (p : X → Bool) (f : X → S) (x : X) (xs : List X) → join_over k p f (x ∷ xs) ≡ k.join (guarded k (p x) (f x)) (join_over k p f xs)
  join_cons p f x xs =
      elim (p x) as (λ b. cond b (k.join (f x) (join_over k p f xs)) (join_over k p f xs) ≡ k.join (guarded k b (f x)) (join_over k p f xs))
      [ true ↦ refl | false ↦ sym (zero_join _) ]

  -- The join over what each symbol makes is a sum below the symbol count.
  pub join_symbols : {X : Type 0} (p : X → Bool) (f : X → S) (make : ℕ → X) (n : ℕ) → join_over k p f (map make (symbols n)) ≡ join_below k (λ a. guarded k (p (make a)) (f (make a))) n
  join_symbols p f make zero = refl
  join_symbols p f make (suc n) =
      ap (join_over k p f) (map-append make (symbols n) (n ∷ []))
      ∙ join_append p f (map make (symbols n)) (make n ∷ [])
      ∙ ap (λ x. k.join x (join_over k p f (make n ∷ []))) (join_symbols p f make n)
      ∙ ap (k.join _) (join_cons p f (make n) [] ∙ l.join_zero _)

  -- The join over every list that an element makes, where each of these joins is known.
  pub join_joined : {X Y : Type 0} (p : Y → Bool) (f : Y → S) (make : X → List Y) (t : X → Bool) (g : X → S) (xs : List X) → ((x : X) → join_over k p f (make x) ≡ guarded k (t x) (g x)) → join_over k p f (flat_map make xs) ≡ join_over k t g xs
  join_joined p f make t g [] e = refl
  join_joined p f make t g (x ∷ xs) e =
      join_append p f (make x) (flat_map make xs)
      ∙ ap (λ y. k.join y (join_over k p f (flat_map make xs))) (e x)
      ∙ ap (k.join _) (join_joined p f make t g xs e)
      ∙ sym (join_cons t g x xs)

  pub guarded_additive : (b : Bool) (f : S → S) → Additive k f → Additive k (λ x. guarded k b (f x))
  guarded_additive true f h = h
  guarded_additive false f h = record { at_zero = refl; at_join = λ x y. sym (l.join_zero k.zero) }

  pub product_additive : (y : S) → Additive k (λ x. k.product x y)
  product_additive y = record { at_zero = l.zero_product y; at_join = λ a b. l.join_product a b y }

  pub join_below_additive : (f : ℕ → S → S) (n : ℕ) → ((i : ℕ) → Additive k (f i)) → Additive k (λ x. join_below k (λ i. f i x) n)
  join_below_additive f n h = record {
    at_zero = join_below_same _ _ n (λ i _. (h i).at_zero) ∙ join_below_zero n;
    at_join = λ x y. join_below_same _ _ n (λ i _. (h i).at_join x y) ∙ join_below_join (λ i. f i x) (λ i. f i y) n;
  }

  -- An additive map of a join is the join of the map.
  pub join_mapped : {X : Type 0} (h : S → S) → Additive k h → (p : X → Bool) (f : X → S) (xs : List X) → h (join_over k p f xs) ≡ join_over k p (λ x. h (f x)) xs
  join_mapped h a p f [] = a.at_zero
  join_mapped h a p f (x ∷ xs) =
      elim (p x) as (λ b. h (cond b (k.join (f x) (join_over k p f xs)) (join_over k p f xs)) ≡ cond b (k.join (h (f x)) (join_over k p (λ x. h (f x)) xs)) (join_over k p (λ x. h (f x)) xs)) [
        | true ↦ a.at_join (f x) (join_over k p f xs) ∙ ap (k.join (h (f x))) (join_mapped h a p f xs)
        | false ↦ join_mapped h a p f xs
      ]

  -- The same elements, grouped by a number e below n: each group's join goes through g of its number.
  pub join_grouped : {X : Type 0} (g : ℕ → S → S) → ((i : ℕ) → Additive k (g i)) → (p : X → Bool) (f : X → S) (e : X → ℕ) (n : ℕ) (xs : List X) → AllByRecursion (λ x. e x < n) xs → join_below k (λ i. g i (join_over k (λ x. p x && eqb (e x) i) f xs)) n ≡ join_over k p (λ x. g (e x) (f x)) xs
  join_grouped g a p f e n [] h = join_below_same _ _ n (λ i _. (a i).at_zero) ∙ join_below_zero n
  join_grouped g a p f e n (x ∷ xs) h =
      let rest : ℕ → S = λ i. join_over k (λ y. p y && eqb (e y) i) f xs in
      let later = join_grouped g a p f e n xs h.1 in
      let all : S = join_over k p (λ y. g (e y) (f y)) xs in
      elim (p x) as (λ b. join_below k (λ i. g i (cond (b && eqb (e x) i) (k.join (f x) (rest i)) (rest i))) n ≡ cond b (k.join (g (e x) (f x)) all) all) [
        | true ↦
            join_below_bump _ (λ i. g i (rest i)) (g (e x) (f x)) (e x) n h.0
            (ap (λ b. g (e x) (cond b (k.join (f x) (rest (e x))) (rest (e x)))) (eq-eqb (e x) (e x) refl) ∙ (a (e x)).at_join (f x) (rest (e x)))
            (λ i ne. ap (λ b. g i (cond b (k.join (f x) (rest i)) (rest i))) (ne_eqb (e x) i (λ q. ne (sym q))))
            ∙ ap (k.join (g (e x) (f x))) later
        | false ↦ later
      ]

  -- A join of two guarded parts is the two joins.
  pub join_split : {X : Type 0} (p r : X → Bool) (f g : X → S) (xs : List X) → join_over k (λ _. true) (λ x. k.join (guarded k (p x) (f x)) (guarded k (r x) (g x))) xs ≡ k.join (join_over k p f xs) (join_over k r g xs)
  join_split p r f g [] = sym (l.join_zero k.zero)
  join_split p r f g (x ∷ xs) =
      ap (k.join _) (join_split p r f g xs)
      ∙ crossed _ _ _ _
      ∙ ap (λ y. k.join y (k.join (guarded k (r x) (g x)) (join_over k r g xs))) (sym (join_cons p f x xs))
      ∙ ap (k.join (join_over k p f (x ∷ xs))) (sym (join_cons r g x xs))

  pub join_below_guarded : (b : Bool) (f : ℕ → S) (n : ℕ) → join_below k (λ i. guarded k b (f i)) n ≡ guarded k b (join_below k f n)
  join_below_guarded true f n = refl
  join_below_guarded false f n = join_below_zero n
