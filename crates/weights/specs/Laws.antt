-- What a weight kind is: the operations of a semiring, and the laws that they keep.
use Rattle.std.specs.Prelude.{◌≡◌}

-- The operations of a weight kind over its values.
pub record Algebra (S : Type 0) : Type 0 where
  pub zero : S
  pub one : S
  pub join : S → S → S
  pub product : S → S → S

-- The laws of a semiring, for every value; the product is not said to be associative.
pub record Laws {S : Type 0} (k : Algebra S) : Type 0 where
  pub join_assoc : (x y z : S) → k.join (k.join x y) z ≡ k.join x (k.join y z)
  pub join_comm : (x y : S) → k.join x y ≡ k.join y x
  pub join_zero : (x : S) → k.join x k.zero ≡ x
  pub one_product : (x : S) → k.product k.one x ≡ x
  pub product_one : (x : S) → k.product x k.one ≡ x
  pub product_join : (x y z : S) → k.product x (k.join y z) ≡ k.join (k.product x y) (k.product x z)
  pub join_product : (x y z : S) → k.product (k.join x y) z ≡ k.join (k.product x z) (k.product y z)
  pub zero_product : (x : S) → k.product k.zero x ≡ k.zero
  pub product_zero : (x : S) → k.product x k.zero ≡ k.zero
