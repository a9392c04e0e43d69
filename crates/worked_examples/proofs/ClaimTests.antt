-- Tests of claims that the checker computes, and what each gives.
use Rattle.std.proofs.Common.{◌≡◌, ℕ, ◌+◌, ◌-◌, Bool, true, ◌&&◌, eqb, List, Some, None, Option, refl, arith}
use Rattle.std.specs.Bool.{beq}
use Rattle.std.specs.Cmp.{booleans_Decides}
use Rattle.std.specs.List.{list_all}
use Rattle.std.specs.Option.{option_eq}
use Rattle.std.proofs.lemmas.Bool.Decides.{nat_tests}
use Rattle.std.proofs.lemmas.List.Elements.{recursion_from_All}
use Rattle.std.proofs.lemmas.List.Sums.{AllPass-from_list_all}
use Rattle.charts.specs.Meaning.{Meaning}
use Rattle.tables.specs.Figures.{Requirements, good_total, off_total, good_caught, figures}
use Rattle.worked_examples.specs.Claims.{Claim, figures_are, totals_are, good_is, least_is, none_is_fit, TrueOf, Bed, AllTrue}
use Rattle.worked_examples.proofs.FitTests.{is_least, least_found, none_fit, none_found}

same_cost : (a b : Option ℕ) → option_eq eqb a b ≡ true → a ≡ b
same_cost None None e = refl
same_cost None (Some n) e = cc
same_cost (Some m) None e = cc
same_cost (Some m) (Some n) e = grind (arith, nat_tests)

module _ (m : Meaning) (r : Requirements) where
  -- Whether a claim passes its test.
  abbrev pub holds : Claim → Bool
  holds (figures_are h f) =
      let g = figures m r h in
      (eqb g.caught_good f.caught_good && eqb g.caught_off f.caught_off) && (option_eq eqb g.mildest_cost f.mildest_cost && beq g.stop_possible f.stop_possible)
  holds (totals_are good off) = eqb (good_total r) good && eqb (off_total r) off
  holds (good_is h good total) = eqb (good_caught m r h) good && eqb (good_total r) total
  holds (least_is h) = is_least m r h
  holds none_is_fit = none_fit m r (r.highest + 1 - r.lowest)

  pub true_of : (c : Claim) → holds c ≡ true → TrueOf m r c
  true_of (figures_are h f) e = grind (arith, nat_tests, same_cost, booleans_Decides)
  true_of (totals_are good off) e = grind (arith, nat_tests)
  true_of (good_is h good total) e = grind (arith, nat_tests)
  true_of (least_is h) e = least_found m r h e
  true_of none_is_fit e = none_found m r e

-- Whether all claims of all beds do.
abbrev pub all_hold : List Bed → Bool
all_hold beds = list_all (λ b. list_all (holds b.chart b.asks) b.claims) beds

pub all_true : (beds : List Bed) → all_hold beds ≡ true → AllTrue beds
all_true beds e =
    let each = AllPass-from_list_all _ beds e in
    recursion_from_All _ beds (λ k d l. recursion_from_All _ _ (λ i c n. true_of _ _ _ (AllPass-from_list_all _ _ (each k d l) i c n)))
