-- The recurrence of the table: one course more, from the row of the courses before.
use Rattle.std.proofs.Common.{◌≡◌, ℕ, zero, suc, ◌+◌, ◌<◌, Bool, true, false, cond, not, ◌&&◌, ◌||◌, eqb, List, [], ◌∷◌, ◌++◌, map, length, get_or, sym, refl, ap, ◌∙◌, subst, add-one, arith}
use Rattle.std.specs.List.{flat_map, AllByRecursion}
use Rattle.std.proofs.lemmas.List.{map-append}
use Rattle.charts.specs.Meaning.{Moves}
use Rattle.charts.specs.Runs.{run_from, stops_from}
use Rattle.charts.proofs.RunsByLast.{run_push, stops_push}
use Rattle.weights.specs.Laws.{Algebra, Laws}
use Rattle.tables.specs.Sequences.{symbols, sequences, product_from, weight}
use Rattle.tables.specs.Fill.{join_below, guarded, into, alarming, passed_on}
use Rattle.tables.specs.Table.{join_over, table_at, caught_from}
use Rattle.tables.proofs.Joins.{Additive, zero_join, join_below_same, join_below_join, join_below_guarded, join_symbols, join_joined, join_mapped, join_grouped, join_split, guarded_additive, product_additive, join_below_additive}

-- One symbol more at the end of a sequence.
product_push : {S : Type 0} (k : Algebra S) (w : List S) (x : S) (q : List ℕ) (a : ℕ) → product_from k w x (q ++ a ∷ []) ≡ k.product (product_from k w x q) (get_or w a k.zero)
product_push k w x [] a = refl
product_push k w x (b ∷ q) a = product_push k w _ q a

pub all_append : {X : Type 0} (P : X → Type 0) (xs ys : List X) → AllByRecursion P xs → AllByRecursion P ys → AllByRecursion P (xs ++ ys)
all_append P [] ys h g = g
all_append P (x ∷ xs) ys h g = (h.0, all_append P xs ys h.1 g)

all_symbols : {X : Type 0} (P : X → Type 0) (make : ℕ → X) (n : ℕ) → ((a : ℕ) → a < n → P (make a)) → AllByRecursion P (map make (symbols n))
all_symbols P make zero h = tt
all_symbols P make (suc n) h =
    subst (AllByRecursion P) (sym (map-append make (symbols n) (n ∷ []))) (all_append P _ _ (all_symbols P make n (λ a b. h a (omega arith))) (h n (omega arith), tt))

all_joined : {X Y : Type 0} (P : X → Type 0) (Q : Y → Type 0) (make : X → List Y) (xs : List X) → ((x : X) → P x → AllByRecursion Q (make x)) → AllByRecursion P xs → AllByRecursion Q (flat_map make xs)
all_joined P Q make [] f h = tt
all_joined P Q make (x ∷ xs) f h = all_append Q (make x) (flat_map make xs) (f x h.0) (all_joined P Q make xs f h.1)

-- Every sequence from a state below the count ends below it, where each step does.
ends_below : (m : Moves) (h s count i n : ℕ) → s < count → ((t a : ℕ) → t < count → a < i → m.step h t a < count) → AllByRecursion (λ q. run_from m h s q < count) (sequences i n)
ends_below m h s count i zero from stays = (from, tt)
ends_below m h s count i (suc n) from stays =
    all_joined (λ q. run_from m h s q < count) (λ q. run_from m h s q < count) _ (sequences i n)
    (λ q b. all_symbols (λ r. run_from m h s r < count) _ i (λ a c. subst (λ e. e < count) (sym (run_push m h s q a)) (stays _ a b c)))
    (ends_below m h s count i n from stays)

module _ {S : Type 0} (k : Algebra S) (l : Laws k) (w : List S) where
  -- What one symbol more after q gives, at any test of the longer sequence.
  one_more : (p : List ℕ → Bool) (t : ℕ → Bool) (q : List ℕ) → ((a : ℕ) → p (q ++ a ∷ []) ≡ t a) → join_over k p (weight k w) (map (λ a. q ++ a ∷ []) (symbols (length w))) ≡ join_below k (λ a. guarded k (t a) (k.product (weight k w q) (get_or w a k.zero))) (length w)
  one_more p t q e =
      join_symbols k l p (weight k w) (λ a. q ++ a ∷ []) (length w)
      ∙ join_below_same k l _ _ (length w) (λ a _. ap (λ b. guarded k b (weight k w (q ++ a ∷ []))) (e a) ∙ ap (guarded k (t a)) (product_push k w k.one q a))

  passed_additive : Additive k (passed_on k w)
  passed_additive = join_below_additive k l _ (length w) (λ a. product_additive k l _)

  -- All sequences of one course more.
  pub whole_suc : (n : ℕ) → join_over k (λ _. true) (weight k w) (sequences (length w) (suc n)) ≡ passed_on k w (join_over k (λ _. true) (weight k w) (sequences (length w) n))
  whole_suc n =
      join_joined k l (λ _. true) (weight k w) _ (λ _. true) (λ q. passed_on k w (weight k w q)) (sequences (length w) n) (λ q. one_more (λ _. true) (λ _. true) q (λ a. refl))
      ∙ sym (join_mapped k l (passed_on k w) passed_additive (λ _. true) (weight k w) (sequences (length w) n))

module _ {S : Type 0} (k : Algebra S) (l : Laws k) (m : Moves) (h : ℕ) (w : List S) where
  pub into_additive : (t s : ℕ) → Additive k (into k m h w t s)
  into_additive t s = join_below_additive k l _ (length w) (λ a. guarded_additive k l _ _ (product_additive k l _))

  pub alarming_additive : (s : ℕ) → Additive k (alarming k m h w s)
  alarming_additive s = join_below_additive k l _ (length w) (λ a. guarded_additive k l _ _ (product_additive k l _))

module _ {S : Type 0} (k : Algebra S) (l : Laws k) (m : Moves) (h from : ℕ) (w : List S) where
  free_cell : (u al e : Bool) (x : S) → guarded k (not (u || al) && e) x ≡ guarded k (not u) (guarded k (not al && e) x)
  free_cell true al e x = refl
  free_cell false al e x = refl

  caught_cell : (u al : Bool) (x : S) → guarded k (u || al) x ≡ k.join (guarded k u x) (guarded k (not u) (guarded k al x))
  caught_cell true al x = sym (l.join_zero x)
  caught_cell false al x = sym (zero_join k l _)

  free_more : (t : ℕ) (q : List ℕ) → join_over k (λ r. not (stops_from m h from r) && eqb (run_from m h from r) t) (weight k w) (map (λ a. q ++ a ∷ []) (symbols (length w))) ≡ guarded k (not (stops_from m h from q)) (into k m h w t (run_from m h from q) (weight k w q))
  free_more t q =
      let s = run_from m h from q in
      one_more k l w _ (λ a. not (stops_from m h from q || m.alarm h (m.step h s a)) && eqb (m.step h s a) t) q
      (λ a. ap (λ b. not b && eqb (run_from m h from (q ++ a ∷ [])) t) (stops_push m h from q a) ∙ ap (λ e. not (stops_from m h from q || m.alarm h (m.step h s a)) && eqb e t) (run_push m h from q a))
      ∙ join_below_same k l _ _ (length w) (λ a _. free_cell (stops_from m h from q) (m.alarm h (m.step h s a)) (eqb (m.step h s a) t) _)
      ∙ join_below_guarded k l (not (stops_from m h from q)) _ (length w)

  caught_one : (q : List ℕ) → join_over k (stops_from m h from) (weight k w) (map (λ a. q ++ a ∷ []) (symbols (length w))) ≡ k.join (guarded k (stops_from m h from q) (passed_on k w (weight k w q))) (guarded k (not (stops_from m h from q)) (alarming k m h w (run_from m h from q) (weight k w q)))
  caught_one q =
      let s = run_from m h from q in
      let u = stops_from m h from q in
      one_more k l w (stops_from m h from) (λ a. u || m.alarm h (m.step h s a)) q (stops_push m h from q)
      ∙ join_below_same k l _ _ (length w) (λ a _. caught_cell u (m.alarm h (m.step h s a)) _)
      ∙ join_below_join k l _ _ (length w)
      ∙ ap (λ x. k.join x (join_below k (λ a. guarded k (not u) (guarded k (m.alarm h (m.step h s a)) (k.product (weight k w q) (get_or w a k.zero)))) (length w))) (join_below_guarded k l u _ (length w))
      ∙ ap (k.join (guarded k u (passed_on k w (weight k w q)))) (join_below_guarded k l (not u) _ (length w))

  pub table_none : (t : ℕ) → table_at k m h from w 0 t ≡ guarded k (eqb from t) k.one
  unfolding table_at
  table_none t = elim (eqb from t) as (λ b. cond b (k.join k.one k.zero) k.zero ≡ guarded k b k.one) [ true ↦ l.join_zero k.one | false ↦ refl ]

  pub caught_none : caught_from k m h from w 0 ≡ k.zero
  unfolding caught_from
  caught_none = refl

  module _ (count : ℕ) (below : from < count) (stays : (t a : ℕ) → t < count → a < length w → m.step h t a < count) where
    pub table_more : (n t : ℕ) → table_at k m h from w (n + 1) t ≡ join_below k (λ s. into k m h w t s (table_at k m h from w n s)) count
    unfolding table_at
    table_more n t =
        ap (λ j. join_over k (λ q. not (stops_from m h from q) && eqb (run_from m h from q) t) (weight k w) (sequences (length w) j)) (add-one n)
        ∙ join_joined k l _ (weight k w) _ (λ q. not (stops_from m h from q)) (λ q. into k m h w t (run_from m h from q) (weight k w q)) (sequences (length w) n) (free_more t)
        ∙ sym (join_grouped k l (into k m h w t) (into_additive k l m h w t) (λ q. not (stops_from m h from q)) (weight k w) (run_from m h from) count (sequences (length w) n) (ends_below m h from count (length w) n below stays))

    pub caught_more : (n : ℕ) → caught_from k m h from w (n + 1) ≡ k.join (passed_on k w (caught_from k m h from w n)) (join_below k (λ s. alarming k m h w s (table_at k m h from w n s)) count)
    unfolding caught_from table_at
    caught_more n =
        ap (λ j. join_over k (stops_from m h from) (weight k w) (sequences (length w) j)) (add-one n)
        ∙ join_joined k l (stops_from m h from) (weight k w) _ (λ _. true) _ (sequences (length w) n) caught_one
        ∙ join_split k l (stops_from m h from) (λ q. not (stops_from m h from q)) _ _ (sequences (length w) n)
        ∙ ap (λ x. k.join x (join_over k (λ q. not (stops_from m h from q)) (λ q. alarming k m h w (run_from m h from q) (weight k w q)) (sequences (length w) n))) (sym (join_mapped k l (passed_on k w) (passed_additive k l w) (stops_from m h from) (weight k w) (sequences (length w) n)))
        ∙ ap (k.join (passed_on k w (caught_from k m h from w n))) (sym (join_grouped k l (alarming k m h w) (alarming_additive k l m h w) (λ q. not (stops_from m h from q)) (weight k w) (run_from m h from) count (sequences (length w) n) (ends_below m h from count (length w) n below stays)))
