-- A chart of pairs owes what every chart owes, where its two parts keep their ranges.
use Rattle.std.specs.Prelude.{◌≡◌, ℕ, ◌+◌, ◌*◌, ◌/◌, ◌%◌, ◌<◌, ◌≤◌}
use Rattle.std.proofs.Common.{arith}
use Rattle.std.proofs.lemmas.Nat.{rows}
use Rattle.std.proofs.lemmas.Bool.Decides.{nat_tests}
use Rattle.charts.specs.Meaning.{Sound}
use Rattle.layers.specs.Pairs.{Pairs, counted, coded}

-- Both parts of the pairs keep their ranges.
pub record Ranged (v : Pairs) : Type 0 where
  pub range : (h : ℕ) → 0 < v.lefts h → (1 ≤ h) × (h ≤ 1023)
  pub left_start_below : (h : ℕ) → 0 < v.lefts h → v.left_start h < v.lefts h
  pub right_start_below : (h : ℕ) → 0 < v.rights h → v.right_start h < v.rights h
  pub left_step_below : (h s a : ℕ) → s < v.lefts h → a < 16 → v.left_step h s a < v.lefts h
  pub right_step_below : (h s r a : ℕ) → r < v.rights h → a < 16 → v.right_step h s r a < v.rights h

-- A count above 0 is the number of all pairs.
pub counted_whole : (n : ℕ) → 0 < counted n → (counted n ≡ n) × (n ≤ 1024)
counted_whole n some = (grind (arith, nat_tests), grind (arith, nat_tests))

pub factors : (a b : ℕ) → 0 < a * b → (0 < a) × (0 < b)
factors a b some = (grind (arith, nat_tests, rows), grind (arith, nat_tests, rows))

-- What a code below the count says of its two parts.
pub record Parts (m n s : ℕ) : Type 0 where
  pub left_some : 0 < m
  pub right_some : 0 < n
  pub left : s / n < m
  pub right : s % n < n

pub parts : (m n s : ℕ) → s < counted (m * n) → Parts m n s
parts m n s l = record {
  left_some = grind (arith, nat_tests, rows);
  right_some = grind (arith, nat_tests, rows);
  left = grind (arith, nat_tests, rows);
  right = grind (arith, nat_tests, rows);
}

-- The code of two parts lies below the count.
pub code_below : (m n x y : ℕ) → 0 < counted (m * n) → x < m → y < n → x * n + y < counted (m * n)
code_below m n x y some l r = grind (arith, nat_tests, rows)

pub coded_sound : (v : Pairs) → Ranged v → Sound (coded v)
coded_sound v r = record {
  count_most = λ h. grind (arith, nat_tests);
  count_range = λ h l. r.range h (parts (v.lefts h) (v.rights h) 0 l).left_some;
  start_below = λ h l.
      let k = parts (v.lefts h) (v.rights h) 0 l in
      let left = r.left_start_below h k.left_some in
      let right = r.right_start_below h k.right_some in
      grind (arith, nat_tests, code_below);
  start_none = λ h e. grind (arith, nat_tests);
  step_below = λ h s a l b.
      let k = parts (v.lefts h) (v.rights h) s l in
      let left = r.left_step_below h (s / v.rights h) a k.left b in
      let right = r.right_step_below h (s / v.rights h) (s % v.rights h) a k.right b in
      grind (arith, nat_tests, code_below);
  step_past = λ h s a l. grind (arith, nat_tests);
  step_symbol = λ h s a l. grind (arith, nat_tests);
  alarm_past = λ h s l. grind (arith, nat_tests);
}
