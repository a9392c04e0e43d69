-- The laws of the three weight kinds.
use Rattle.std.specs.Prelude.{◌≡◌, ℕ, ◌+◌, ◌%◌, ◌^◌, ◌<◌}
use Rattle.std.proofs.Common.{ap, ◌∙◌, mul-add, add-mul, arith, rules}
use mathlib.Core.HLevel.{is_prop→PathP}
use Rattle.std.proofs.Math.Bridge.{le_prop}
use Rattle.std.proofs.lemmas.Nat.{mul-mod_first, mul-mod_second}
use Rattle.weights.specs.declared.values.Count.{Count}
use Rattle.weights.specs.declared.values.Cost.{Cost}
use Rattle.weights.specs.Laws.{Laws}
use Rattle.weights.specs.Kinds.{counts, costs, cans, count}

-- A record with a ghost field is known by its value.
pub count_same : (x y : Count) → x.value ≡ y.value → x ≡ y
count_same x y e = λ i. record { value = e i; fits = is_prop→PathP (λ k. e k < 2 ^ 64) (λ k. le_prop) x.fits y.fits i }

pub cost_same : (x y : Cost) → x.value ≡ y.value → x ≡ y
cost_same x y e = λ i. record { value = e i; fits = is_prop→PathP (λ k. e k < 2 ^ 64) (λ k. le_prop) x.fits y.fits i }

pub count_mod : (n m : ℕ) → n % 2 ^ 64 ≡ m % 2 ^ 64 → count n ≡ count m
count_mod n m e = count_same (count n) (count m) e

pub product_comm : (x y : Count) → counts.product x y ≡ counts.product y x
product_comm x y = search rules

pub count_laws : Laws counts
count_laws = record {
  join_assoc = λ x y z. count_same _ _ (omega arith);
  join_comm = λ x y. count_same _ _ (omega arith);
  join_zero = λ x. count_same _ x (omega arith);
  one_product = λ x. count_same _ x (omega arith);
  product_one = λ x. count_same _ x (omega arith);
  product_join = λ x y z.
      count_mod _ _ (mul-mod_second x.value (y.value + z.value) (2 ^ 64) ∙ ap (λ n. n % 2 ^ 64) (mul-add x.value y.value z.value) ∙ omega arith);
  join_product = λ x y z.
      count_mod _ _ (mul-mod_first (x.value + y.value) z.value (2 ^ 64) ∙ ap (λ n. n % 2 ^ 64) (add-mul x.value y.value z.value) ∙ omega arith);
  zero_product = λ x. count_same _ counts.zero (omega arith);
  product_zero = λ x. count_same _ counts.zero (omega arith);
}

pub cost_laws : Laws costs
cost_laws = record {
  join_assoc = λ x y z. cost_same _ _ (omega arith);
  join_comm = λ x y. cost_same _ _ (omega arith);
  join_zero = λ x. cost_same _ x (omega arith);
  one_product = λ x. cost_same _ x (omega arith);
  product_one = λ x. cost_same _ x (omega arith);
  product_join = λ x y z. cost_same _ _ (omega arith);
  join_product = λ x y z. cost_same _ _ (omega arith);
  zero_product = λ x. cost_same _ costs.zero (omega arith);
  product_zero = λ x. cost_same _ costs.zero (omega arith);
}

pub can_laws : Laws cans
can_laws = search rules
