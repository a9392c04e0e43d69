-- How a chart of pairs starts, steps and alarms, by its two parts.
use Rattle.std.proofs.Common.{◌≡◌, ℕ, ◌+◌, ◌*◌, ◌<◌, arith}
use Rattle.std.proofs.lemmas.Nat.{div-mul-add, mod-mul-add}
use Rattle.std.proofs.lemmas.Bool.Decides.{nat_tests}
use Rattle.layers.specs.Pairs.{Pairs, coded}
use Rattle.layers.specs.PairsSound.{code_below}

module _ (v : Pairs) (h : ℕ) (some : 0 < (coded v).count h) where
  -- The code of two states.
  abbrev pub code : ℕ → ℕ → ℕ
  code x y = x * v.rights h + y

  pub code_start : (coded v).moves.start h ≡ code (v.left_start h) (v.right_start h)
  code_start = grind (arith, nat_tests)

  pub code_step : (x y a : ℕ) → x < v.lefts h → y < v.rights h → a < 16 → (coded v).moves.step h (code x y) a ≡ code (v.left_step h x a) (v.right_step h x y a)
  code_step x y a l r b = grind (arith, nat_tests, code_below, div-mul-add x (v.rights h) y r, mod-mul-add x (v.rights h) y r)

  pub code_alarm : (x y : ℕ) → x < v.lefts h → y < v.rights h → (coded v).moves.alarm h (code x y) ≡ v.alarm h x y
  code_alarm x y l r = grind (arith, nat_tests, code_below, div-mul-add x (v.rights h) y r, mod-mul-add x (v.rights h) y r)
