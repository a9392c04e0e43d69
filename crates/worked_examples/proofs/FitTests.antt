-- Tests of limits that the checker computes, and what each gives.
use Rattle.std.proofs.Common.{◌≡◌, ℕ, zero, suc, ◌+◌, ◌-◌, ◌*◌, ◌<◌, ◌≤◌, Bool, true, not, ◌&&◌, leb, refl, subst, arith}
use Rattle.std.specs.Bool.{Decides}
use Rattle.std.proofs.lemmas.Bool.Decides.{Decides-not, Decides-below_and, nat_tests}
use Rattle.charts.specs.Meaning.{Meaning}
use Rattle.tables.specs.Figures.{Requirements, good_total, off_total, good_caught, off_caught}
use Rattle.tables.specs.Fit.{Fit, Least, NoneFit}

module _ (m : Meaning) (r : Requirements) where
  -- Whether a limit is fit.
  abbrev pub is_fit : ℕ → Bool
  is_fit h =
      (leb 1 (m.count h) && leb (m.count h) 1024)
      && (leb (good_caught m r h * 1000000) (r.false_stops * good_total r) && leb (r.catches * off_total r) (off_caught m r h * 1000000))

  fit_decides : (h : ℕ) → Decides (is_fit h) (Fit m r h)
  fit_decides h = (
    λ e. record {
      some_states = grind (arith, nat_tests);
      few_states = grind (arith, nat_tests);
      few_stops = grind (arith, nat_tests);
      enough_catches = grind (arith, nat_tests);
    },
    λ f. grind (arith, nat_tests),
  )

  -- Whether none of the n limits from the lowest on is fit.
  abbrev pub none_fit : ℕ → Bool
  none_fit zero = true
  none_fit (suc n) = not (is_fit (r.lowest + n)) && none_fit n

  none_below : (n : ℕ) → none_fit n ≡ true → (h : ℕ) → r.lowest ≤ h → h < r.lowest + n → Fit m r h → ⊥
  none_below n e h l b =
      let none = (Decides-below_and (λ k. not (is_fit (r.lowest + k))) (λ k. Fit m r (r.lowest + k) → ⊥) none_fit (λ k. Decides-not _ (fit_decides (r.lowest + k))) refl (λ _. refl) n).0 e in
      let here : r.lowest + (h - r.lowest) ≡ h = omega arith in
      subst (λ x. Fit m r x → ⊥) here (none (h - r.lowest) (omega arith))

  abbrev pub is_least : ℕ → Bool
  is_least h = (leb r.lowest h && leb h r.highest) && (is_fit h && none_fit (h - r.lowest))

  pub least_found : (h : ℕ) → is_least h ≡ true → Least m r h
  least_found h e =
      let low : r.lowest ≤ h = grind (arith, nat_tests) in
      record {
        from_lowest = low;
        to_highest = grind (arith, nat_tests);
        fit = (fit_decides h).0 (grind (arith, nat_tests));
        none_below = λ g l b. none_below (h - r.lowest) (grind (arith, nat_tests)) g l (omega arith);
      }

  pub none_found : none_fit (r.highest + 1 - r.lowest) ≡ true → NoneFit m r
  none_found e = λ h l b. none_below (r.highest + 1 - r.lowest) e h l (omega arith)
