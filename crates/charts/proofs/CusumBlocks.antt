-- A cusum stops a sequence exactly when some block of it is heavy.
use Rattle.std.proofs.Common.{◌≡◌, ℕ, ◌<◌, ◌≤◌, min, true, false, ◌||◌, ◌⊎◌, List, [], ◌∷◌, ◌++◌, get_or, ℤ, pos, ◌+ℤ◌, ◌≤ℤ◌, refl, ap, ◌∙◌, inl, inr, ⊎_elim, arith}
use Rattle.std.proofs.lemmas.Int.{ints}
use Rattle.std.proofs.lemmas.Bool.Decides.{nat_tests}
use Rattle.std.proofs.lemmas.Bool.{or_left, or_right, false≢true}
use Rattle.charts.specs.Cusum.{raised, cusum}
use Rattle.charts.specs.Runs.{stops_from, Symbols}
use Rattle.charts.specs.CusumLaw.{total, Heavy, StopsByBlocks}

-- A front of the courses that lifts the state s to h.
record Reach (scores : List ℤ) (h s : ℕ) (w : List ℕ) : Type 0 where
  front : List ℕ
  rest : List ℕ
  is : w ≡ front ++ rest
  high : pos h ≤ℤ (pos s +ℤ total scores front)

-- A state cut to h is h, or lies below it: then it is the number, or 0 where that is negative.
cut : (h : ℕ) (z : ℤ) → 1 ≤ h → ((min h (raised z) ≡ h) × (pos h ≤ℤ z)) ⊎ ((min h (raised z) < h) × (z ≤ℤ pos (min h (raised z))) × ((pos (min h (raised z)) ≡ z) ⊎ (min h (raised z) ≡ 0)))
cut h z l = grind (arith, ints)

module _ (scores : List ℤ) (h : ℕ) (lo : 1 ≤ h) (hi : h ≤ 1023) where
  step_is : (s a : ℕ) → s < h → a < 16 → (cusum scores).moves.step h s a ≡ min h (raised (pos s +ℤ get_or scores a (pos 0)))
  step_is s a l b = grind (arith, nat_tests)

  -- What a sequence does from a state, by the state after its first symbol.
  stops_by : (s a t : ℕ) (w : List ℕ) → (cusum scores).moves.step h s a ≡ t → stops_from (cusum scores).moves h s (a ∷ w) ≡ ((cusum scores).moves.alarm h t || stops_from (cusum scores).moves h t w)
  stops_by s a t w e = ap (λ u. (cusum scores).moves.alarm h u || stops_from (cusum scores).moves h u w) e

  top_alarms : (cusum scores).moves.alarm h h ≡ true
  top_alarms = grind (arith, nat_tests)

  below_quiet : (t : ℕ) → t < h → (cusum scores).moves.alarm h t ≡ false
  below_quiet t l = grind (arith, nat_tests)

  found_from : (w : List ℕ) (s : ℕ) → s < h → Symbols 16 w → stops_from (cusum scores).moves h s w ≡ true → Reach scores h s w ⊎ Heavy scores h w
  found_from [] s l y e = absurd (false≢true e)
  found_from (a ∷ w) s l (b, y) e =
      ⊎_elim
      (λ up. inl (record { front = a ∷ []; rest = w; is = refl; high = let k = up.1 in omega (arith, ints) }))
      (λ low.
      let t : ℕ = min h (raised (pos s +ℤ get_or scores a (pos 0))) in
      let quiet = below_quiet t low.0 in
      let step = stops_by s a t w (step_is s a l b) in
      let q : stops_from (cusum scores).moves h t w ≡ true = grind (arith, nat_tests) in
      ⊎_elim
      (λ r.
      ⊎_elim
      (λ same. inl (record { front = a ∷ r.front; rest = r.rest; is = ap (λ u. a ∷ u) r.is; high = let k = r.high in omega (arith, ints) }))
      (λ none. inr (record { before = a ∷ []; block = r.front; after = r.rest; is = ap (λ u. a ∷ u) r.is; heavy = let k = r.high in omega (arith, ints) }))
      low.2)
      (λ v. inr (record { before = a ∷ v.before; block = v.block; after = v.after; is = ap (λ u. a ∷ u) v.is; heavy = v.heavy }))
      (found_from w t low.0 y q))
      (cut h (pos s +ℤ get_or scores a (pos 0)) lo)

  -- What lifts the state before a symbol that leaves it below h lifts the state after.
  reach_on : (a s t : ℕ) (w front rest : List ℕ) → s < h → (pos s +ℤ get_or scores a (pos 0)) ≤ℤ pos t → a ∷ w ≡ front ++ rest → pos h ≤ℤ (pos s +ℤ total scores front) → Reach scores h t w
  reach_on a s t w [] rest l k e high = absurd (omega (arith, ints))
  reach_on a s t w (b ∷ f) rest l k e high =
      let same : b ≡ a = cc in
      let here = rw same at high in
      record { front = f; rest = rest; is = cc; high = omega (arith, ints) }

  heavy_on : (a s t : ℕ) (w before block after : List ℕ) → s < h → (pos s +ℤ get_or scores a (pos 0)) ≤ℤ pos t → a ∷ w ≡ before ++ (block ++ after) → pos h ≤ℤ total scores block → Reach scores h t w ⊎ Heavy scores h w
  heavy_on a s t w [] block after l k e heavy = inl (reach_on a s t w block after l k e (omega (arith, ints)))
  heavy_on a s t w (b ∷ u) block after l k e heavy =
      inr (record { before = u; block = block; after = after; is = cc; heavy = heavy })

  reach_none : (s : ℕ) (front rest : List ℕ) → s < h → [] ≡ front ++ rest → pos h ≤ℤ (pos s +ℤ total scores front) → ⊥
  reach_none s [] rest l e high = omega (arith, ints)
  reach_none s (b ∷ f) rest l e high = cc

  heavy_none : (before block after : List ℕ) → [] ≡ before ++ (block ++ after) → pos h ≤ℤ total scores block → ⊥
  heavy_none [] block after e heavy = reach_none 0 block after lo e (omega (arith, ints))
  heavy_none (b ∷ u) block after e heavy = cc

  stops_at : (w : List ℕ) (s : ℕ) → s < h → Symbols 16 w → Reach scores h s w ⊎ Heavy scores h w → stops_from (cusum scores).moves h s w ≡ true
  stops_at [] s l y c =
      ⊎_elim
      (λ r. absurd (reach_none s r.front r.rest l r.is r.high))
      (λ v. absurd (heavy_none v.before v.block v.after v.is v.heavy))
      c
  stops_at (a ∷ w) s l (b, y) c =
      ⊎_elim
      (λ up. stops_by s a h w (step_is s a l b ∙ up.0) ∙ or_left _ _ top_alarms)
      (λ low.
      let t : ℕ = min h (raised (pos s +ℤ get_or scores a (pos 0))) in
      stops_by s a t w (step_is s a l b)
      ∙ or_right _ _
      (stops_at w t low.0 y
      (⊎_elim
      (λ r. inl (reach_on a s t w r.front r.rest l low.1 r.is r.high))
      (λ v. heavy_on a s t w v.before v.block v.after l low.1 v.is v.heavy)
      c)))
      (cut h (pos s +ℤ get_or scores a (pos 0)) lo)

pub cusum_stops : (scores : List ℤ) → StopsByBlocks scores (cusum scores).moves
cusum_stops scores = record {
  exactly = λ h lo hi w y. (
    λ e.
        ⊎_elim
        (λ r. record { before = []; block = r.front; after = r.rest; is = r.is; heavy = let k = r.high in omega (arith, ints) })
        (λ v. v)
        (found_from scores h lo hi w 0 lo y e),
    λ v. stops_at scores h lo hi w 0 lo y (inr v),
  );
}
