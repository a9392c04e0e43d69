-- Lemmas on the ranges, for the proofs that charts owe what every chart owes.
use Rattle.std.specs.Prelude.{◌≡◌, ℕ, ◌<◌, ◌≤◌, Bool, true, if◌then◌else◌, List, [], ◌∷◌}
use Rattle.std.proofs.Common.{arith}
use Rattle.std.proofs.lemmas.Bool.Decides.{nat_tests}
use Rattle.charts.specs.Meaning.{Meaning, Sound}
use Rattle.charts.specs.Ranges.{valid, within}
use Rattle.charts.specs.Runs.{run_from, end_state}

-- A number that a test lets through, else 0.
pub guarded_below : (b : Bool) (u n : ℕ) → u < n → (if b then u else 0) < n
guarded_below b u n h = grind (arith, nat_tests)

pub guarded_le : (b : Bool) (u n : ℕ) → (b ≡ true → u ≤ n) → (if b then u else 0) ≤ n
guarded_le b u n h = grind (arith, nat_tests)

pub guarded_pos : (b : Bool) (u : ℕ) → 0 < (if b then u else 0) → (b ≡ true) × ((if b then u else 0) ≡ u)
guarded_pos b u h = (grind (arith, nat_tests), grind (arith, nat_tests))

-- A limit from 1 to 1,023 is valid.
pub in_range_valid : (h : ℕ) → 1 ≤ h → h ≤ 1023 → valid h ≡ true
in_range_valid h lo hi = grind (arith, nat_tests)

-- Where a count that is 0 at other limits is positive, the limit is valid.
pub valid_range : (h u : ℕ) → 0 < (if valid h then u else 0) → (1 ≤ h) × (h ≤ 1023)
valid_range h u p = (grind (arith, nat_tests), grind (arith, nat_tests))

-- A step that is 0 outside the ranges.
pub past_state : (n s a u : ℕ) → n ≤ s → (if within n s a then u else 0) ≡ 0
past_state n s a u l = grind (arith, nat_tests)

pub past_symbol : (n s a u : ℕ) → 16 ≤ a → (if within n s a then u else 0) ≡ 0
past_symbol n s a u l = grind (arith, nat_tests)

-- A step from a state stays below the count, whatever the symbol.
pub step_stays : (m : Meaning) → Sound m → (h s a : ℕ) → s < m.count h → m.moves.step h s a < m.count h
step_stays m sound h s a l = grind (arith, sound.step_below h s a l, sound.step_symbol h s a)

-- A run from a state below the count ends below it.
pub run_stays : (p : Meaning) → Sound p → (h s : ℕ) (q : List ℕ) → s < p.count h → run_from p.moves h s q < p.count h
run_stays p sp h s [] l = l
run_stays p sp h s (a ∷ q) l = run_stays p sp h _ q (step_stays p sp h s a l)

-- Where a chart has states, it ends each sequence in one of them.
pub end_below : (p : Meaning) → Sound p → (h : ℕ) (q : List ℕ) → 0 < p.count h → end_state p.moves h q < p.count h
end_below p sp h q l = run_stays p sp h _ q (sp.start_below h l)
