-- The three weight kinds: counts, costs, and yes or no.
use Rattle.std.specs.Prelude.{ℕ, ◌+◌, ◌-◌, ◌*◌, ◌%◌, ◌^◌, ◌<◌, min, Bool, true, false, if◌then◌else◌, ◌&&◌, ◌||◌, Some, None, Option, ◌==◌}
use Rattle.std.proofs.Common.{mod-lt, arith, lit<}
use Rattle.weights.specs.Laws.{Algebra}
use Rattle.weights.specs.declared.values.Count.{Count}
use Rattle.weights.specs.declared.values.Cost.{Cost}
use Rattle.weights.specs.declared.values.Can.{Can}

-- A number as a count: modulo 2^64.
abbrev pub count : ℕ → Count
count n = record { value = n % 2 ^ 64; fits = mod-lt n (lit< tt) }

-- Counts: the join is the sum, the product is the product.
abbrev pub counts : Algebra Count
counts = record {
  zero = count 0;
  one = count 1;
  join = λ x y. count (x.value + y.value);
  product = λ x y. count (x.value * y.value);
}

-- What the ghost field of `Cost` asks of a capped number, and of the smaller of two.
pub cap_fits : (n : ℕ) → min n (2 ^ 64 - 1) < 2 ^ 64
cap_fits n = omega arith

pub min_fits : (n m : ℕ) → n < 2 ^ 64 → min n m < 2 ^ 64
min_fits n m small = omega arith

-- A number as a cost: capped at 2^64 - 1, which stands for an absent one.
abbrev pub cost : ℕ → Cost
cost n = record { value = min n (2 ^ 64 - 1); fits = cap_fits n }

-- Costs: the join is the smaller, the product is the sum.
abbrev pub costs : Algebra Cost
costs = record {
  zero = cost (2 ^ 64 - 1);
  one = cost 0;
  join = λ x y. record { value = min x.value y.value; fits = min_fits x.value y.value x.fits };
  product = λ x y. cost (x.value + y.value);
}

-- A cost, or none where it is absent.
abbrev pub present : Cost → Option ℕ
present c = if c.value == 2 ^ 64 - 1 then None else Some c.value

abbrev pub can : Bool → Can
can b = record { value = b }

-- Yes or no: the join is or, the product is and.
abbrev pub cans : Algebra Can
cans = record {
  zero = can false;
  one = can true;
  join = λ x y. can (x.value || y.value);
  product = λ x y. can (x.value && y.value);
}
