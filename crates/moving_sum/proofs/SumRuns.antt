-- A moving sum alarms exactly when the newest two symbols add up to the limit or more.
use Rattle.std.proofs.Common.{◌≡◌, ℕ, ◌+◌, ◌*◌, ◌/◌, ◌%◌, ◌<◌, ◌≤◌, true, cond, ◌&&◌, ltb, leb, List, [], ◌∷◌, ◌++◌, reverse, get_or, take, sum, sym, refl, ap, ◌∙◌, arith}
use Rattle.std.proofs.lemmas.List.{reverse-append}
use Rattle.std.proofs.lemmas.Bool.{le-leb, leb-true, lt-ltb, cond-true, and_from}
use Rattle.charts.specs.Ranges.{valid}
use Rattle.std.proofs.lemmas.Bool.Decides.{nat_tests}
use Rattle.charts.specs.Runs.{Symbols, end_state, alarms_after}
use Rattle.charts.proofs.RunsByLast.{by_last, symbols_last, run_push}
use Rattle.moving_sum.specs.MovingSum.{moving_sum, AlarmsBySum}

-- The newest symbol of a sequence and the one before it, 0 where there is none.
abbrev newest : List ℕ → ℕ
newest q = get_or (reverse q) 0 0

abbrev before : List ℕ → ℕ
before q = get_or (reverse q) 1 0

two_added : (r : List ℕ) → sum (take 2 r) ≡ get_or r 1 0 + get_or r 0 0
two_added [] = refl
two_added (x ∷ []) = omega arith
two_added (x ∷ y ∷ r) = omega arith

module _ (h : ℕ) (lo : 1 ≤ h) (hi : h ≤ 1023) where
  states : ◌≡◌ {A = ℕ} (cond (valid h) 256 0) 256
  states = grind (arith, nat_tests)

  -- The state after a sequence, and that both its symbols are symbols.
  record After (q : List ℕ) : Type 0 where
    is : end_state moving_sum.moves h q ≡ before q * 16 + newest q
    new_small : newest q < 16
    old_small : before q < 16

  inside : (q : List ℕ) → After q → ltb (before q * 16 + newest q) (cond (valid h) 256 0) ≡ true
  inside q r = let a = r.new_small in let b = r.old_small in lt-ltb _ _ (omega (arith, states))

  after : (q : List ℕ) → Symbols 16 q → After q
  after =
      by_last (λ q. Symbols 16 q → After q)
      (λ y. record { is = refl; new_small = omega arith; old_small = omega arith })
      (λ q a ih y.
      let past = symbols_last 16 q a y in
      let r = ih past.0 in
      let turned : reverse (q ++ a ∷ []) ≡ a ∷ reverse q = reverse-append q (a ∷ []) in
      let new : newest (q ++ a ∷ []) ≡ a = ap (λ u. get_or u 0 0) turned in
      let old : before (q ++ a ∷ []) ≡ newest q = ap (λ u. get_or u 1 0) turned in
      let small = r.new_small in
      let low : (before q * 16 + newest q) % 16 ≡ newest q = omega arith in
      record {
        is =
            run_push moving_sum.moves h 0 q a
            ∙ ap (λ s. moving_sum.moves.step h s a) r.is
            ∙ cond-true _ _ 0 (and_from _ _ (inside q r) (lt-ltb a 16 past.1))
            ∙ omega arith;
        new_small = let b = past.1 in omega arith;
        old_small = omega arith;
      })

  alarm_is : (q : List ℕ) → Symbols 16 q → alarms_after moving_sum.moves h q ≡ leb h (sum (take 2 (reverse q)))
  alarm_is q y =
      let r = after q y in
      let small = r.new_small in
      let s : ℕ = before q * 16 + newest q in
      let parts : s / 16 + s % 16 ≡ before q + newest q = omega arith in
      ap (moving_sum.moves.alarm h) r.is
      ∙ ap (λ b. b && leb h (s / 16 + s % 16)) (inside q r)
      ∙ ap (leb h) (parts ∙ sym (two_added (reverse q)))

pub sum_alarms : AlarmsBySum moving_sum.moves
sum_alarms = record {
  exactly = λ h lo hi q y. (
    λ e. leb-true h _ (sym (alarm_is h lo hi q y) ∙ e),
    λ l. alarm_is h lo hi q y ∙ le-leb h _ l,
  );
}
