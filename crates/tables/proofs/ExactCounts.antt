-- Counts modulo 2^64 are exact where the total weight is small.
use Rattle.std.proofs.Common.{◌≡◌, ℕ, zero, suc, ◌+◌, ◌*◌, ◌^◌, Bool, true, false, cond, not, List, [], ◌∷◌, map, length, get_or, sum, sym, refl, ap, ◌∙◌, add-zero, add_assoc, mod-eq_of_lt, add-mul, add_comm, one-mul, pow-suc, mul-zero, zero-add, zero-mul, mul-one, mul-add, arith}
use native.Mathlib.Nat.{add-mod, pow-zero}
use lib.ListN.{get_or-map}
use Rattle.std.proofs.lemmas.List.{length-map}
use Rattle.std.proofs.lemmas.Nat.{mul-mod}
use Rattle.std.proofs.lemmas.List.Sums.{sum_by-cons}
use Rattle.charts.specs.Meaning.{Moves}
use Rattle.charts.specs.Runs.{stops_from}
use Rattle.weights.specs.Laws.{Algebra, Laws}
use Rattle.weights.specs.Kinds.{count, counts}
use Rattle.weights.specs.KindLaws.{count_mod}
use Rattle.tables.specs.Sequences.{sequences, product_from, weight}
use Rattle.tables.specs.Fill.{join_below, guarded, passed_on}
use Rattle.tables.specs.Table.{join_over, caught_from}
use Rattle.tables.specs.Exact.{naturals, unstopped, Exact}
use Rattle.tables.proofs.TableRecurrence.{whole_suc}
use Rattle.tables.proofs.Joins.{join_split}

natural_laws : Laws naturals
natural_laws = record {
  join_assoc = add_assoc;
  join_comm = add_comm;
  join_zero = add-zero;
  one_product = one-mul;
  product_one = mul-one;
  product_join = mul-add;
  join_product = λ x y z. add-mul x y z;
  zero_product = zero-mul;
  product_zero = mul-zero;
}

count_adds : (a b : ℕ) → count (a + b) ≡ counts.join (count a) (count b)
count_adds a b = count_mod _ _ (add-mod a b (2 ^ 64))

count_multiplies : (a b : ℕ) → count (a * b) ≡ counts.product (count a) (count b)
count_multiplies a b = count_mod _ _ (mul-mod a b (2 ^ 64))

join_counts : {X : Type 0} (p : X → Bool) (f : X → ℕ) (xs : List X) → count (join_over naturals p f xs) ≡ join_over counts p (λ x. count (f x)) xs
join_counts p f [] = refl
join_counts p f (x ∷ xs) =
    elim (p x) as (λ b. count (cond b (f x + join_over naturals p f xs) (join_over naturals p f xs)) ≡ cond b (counts.join (count (f x)) (join_over counts p (λ y. count (f y)) xs)) (join_over counts p (λ y. count (f y)) xs)) [
      | true ↦ count_adds (f x) (join_over naturals p f xs) ∙ ap (counts.join (count (f x))) (join_counts p f xs)
      | false ↦ join_counts p f xs
    ]

product_counts : (w : List ℕ) (x : ℕ) (q : List ℕ) → count (product_from naturals w x q) ≡ product_from counts (map count w) (count x) q
product_counts w x [] = refl
product_counts w x (a ∷ q) =
    product_counts w (x * get_or w a 0) q
    ∙ ap (λ y. product_from counts (map count w) y q) (count_multiplies x (get_or w a 0) ∙ ap (counts.product (count x)) (sym (get_or-map count w a 0)))

join_same : {S X : Type 0} (k : Algebra S) (p : X → Bool) (f g : X → S) (xs : List X) → ((x : X) → f x ≡ g x) → join_over k p f xs ≡ join_over k p g xs
join_same k p f g [] e = refl
join_same k p f g (x ∷ xs) e =
    ap (λ y. cond (p x) (k.join y (join_over k p f xs)) (join_over k p f xs)) (e x)
    ∙ ap (λ y. cond (p x) (k.join (g x) y) y) (join_same k p f g xs e)

-- A sum from its first term on.
join_below_first : (f : ℕ → ℕ) (n : ℕ) → join_below naturals f (suc n) ≡ f 0 + join_below naturals (λ i. f (suc i)) n
join_below_first f zero = omega arith
join_below_first f (suc n) = ap (λ x. x + f (suc n)) (join_below_first f n) ∙ add_assoc _ _ _

passed_total : (w : List ℕ) (x : ℕ) → passed_on naturals w x ≡ x * sum w
passed_total [] x = sym (mul-zero x)
passed_total (y ∷ w) x = join_below_first (λ a. x * get_or (y ∷ w) a 0) (length w) ∙ ap (λ z. x * y + z) (passed_total w x) ∙ sym (mul-add x y (sum w)) ∙ ap (λ z. x * z) (sym (sum_by-cons (λ v. v) y w))

whole_power : (w : List ℕ) (n : ℕ) → join_over naturals (λ _. true) (weight naturals w) (sequences (length w) n) ≡ sum w ^ n
whole_power w zero = sym (pow-zero (sum w))
whole_power w (suc n) = whole_suc naturals natural_laws w n ∙ passed_total w _ ∙ ap (λ x. x * sum w) (whole_power w n) ∙ sym (pow-suc (sum w) n)

split_is : (b : Bool) (x : ℕ) → guarded naturals b x + guarded naturals (not b) x ≡ x
split_is true x = add-zero x
split_is false x = zero-add x

module _ (m : Moves) (h s n : ℕ) where
  caught_counts : (w : List ℕ) → caught_from counts m h s (map count w) n ≡ count (caught_from naturals m h s w n)
  unfolding caught_from
  caught_counts w =
      ap (λ i. join_over counts (stops_from m h s) (weight counts (map count w)) (sequences i n)) (length-map w count)
      ∙ join_same counts (stops_from m h s) _ _ (sequences (length w) n) (λ q. sym (product_counts w 1 q))
      ∙ sym (join_counts (stops_from m h s) (weight naturals w) (sequences (length w) n))

  pub caught_rest : (w : List ℕ) → caught_from naturals m h s w n + unstopped m h s w n ≡ sum w ^ n
  unfolding caught_from unstopped
  caught_rest w =
      sym (join_split naturals natural_laws (stops_from m h s) (λ q. not (stops_from m h s q)) (weight naturals w) (weight naturals w) (sequences (length w) n))
      ∙ join_same naturals (λ _. true) _ (weight naturals w) (sequences (length w) n) (λ q. split_is (stops_from m h s q) (weight naturals w q))
      ∙ whole_power w n

  pub exact : Exact m h s n
  exact = record {
    plain = λ w small. let rest = caught_rest w in ap (λ c. c.value) (caught_counts w) ∙ mod-eq_of_lt (omega arith);
    whole = caught_rest;
  }
