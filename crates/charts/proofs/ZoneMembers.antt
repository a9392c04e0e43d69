-- A zone rule alarms exactly when at least k of the last m symbols are members.
use Rattle.std.proofs.Common.{◌≡◌, ℕ, zero, suc, ◌+◌, ◌-◌, ◌*◌, ◌/◌, ◌%◌, ◌^◌, ◌<◌, ◌≤◌, Bool, true, cond, ◌&&◌, ltb, leb, List, [], ◌∷◌, ◌++◌, reverse, length, take, drop, sym, ap, ◌∙◌, add-one, arith}
use native.Mathlib.Nat.{zero-mod}
use lib.Count.{ones, ones_step, ones-le}
use Rattle.std.proofs.Math.Seq.{take-nil}
use Rattle.std.proofs.lemmas.Bool.Decides.{nat_tests}
use Rattle.std.proofs.lemmas.Grind.{common_steps}
use Rattle.std.proofs.lemmas.Nat.{mod-pow-add, mod_below, pow_pos}
use Rattle.std.proofs.lemmas.List.{take-take, drop_all, drop-append-le, length_push, reverse-append}
use Rattle.std.proofs.lemmas.Bool.{lt-ltb, cond-true, and_from}
use Rattle.charts.specs.Edge.{member}
use Rattle.charts.specs.Ranges.{valid}
use Rattle.charts.specs.Runs.{Symbols, end_state, alarms_after}
use Rattle.charts.specs.Zone.{bit, zone}
use Rattle.charts.specs.ZoneLaw.{members, last, AlarmsByMembers}
use Rattle.charts.specs.declared.edge.Edge.{Edge}
use Rattle.charts.proofs.RunsByLast.{by_last, symbols_last, end_push}

bit_small : (b : Bool) → bit b < 2
bit_small b = grind (arith, nat_tests)

take_again : (m a : ℕ) (q : List ℕ) → take m (a ∷ take m q) ≡ take m (a ∷ q)
take_again m a q = grind (arith, common_steps, take-take)

module _ (edge : Edge) (h : ℕ) where
  -- The memberships of some courses as bits, the newest course first.
  abbrev code : List ℕ → ℕ
  code [] = 0
  code (a ∷ q) = 2 * code q + bit (member edge h a)

  code_cut : (m : ℕ) (q : List ℕ) → code q % 2 ^ m ≡ code (take m q)
  code_cut zero q = omega arith
  code_cut (suc m) [] = zero-mod (2 ^ suc m)
  code_cut (suc m) (a ∷ q) =
      let n : ℕ = 2 * code q + bit (member edge h a) in
      let s = bit_small (member edge h a) in
      let half : n / 2 ≡ code q = omega arith in
      ap (λ e. n % 2 ^ e) (sym (add-one m)) ∙ mod-pow-add n m 1 ∙ ap (λ v. (v % 2 ^ m) * 2 + n % 2) half ∙ omega (arith, code_cut m q)

  code_ones : (q : List ℕ) → ones (code q) ≡ members edge h q
  code_ones [] = omega (arith, ones-le 0 0 (pow_pos 0))
  code_ones (a ∷ q) =
      let n : ℕ = 2 * code q + bit (member edge h a) in
      let s = bit_small (member edge h a) in
      let half : n / 2 ≡ code q = omega arith in
      omega (arith, ones_step n, ap ones half, code_ones q)

  code_next : (m a : ℕ) (q : List ℕ) → (2 * code (take m q) + bit (member edge h a)) % 2 ^ m ≡ code (take m (a ∷ q))
  code_next m a q = code_cut m (a ∷ take m q) ∙ ap code (take_again m a q)

  code_below : (m : ℕ) (q : List ℕ) → code (take m q) < 2 ^ m
  code_below m q = omega (arith, code_cut m q, mod_below (code q) (2 ^ m) (pow_pos m))

  members_push : (q : List ℕ) (a : ℕ) → members edge h (q ++ a ∷ []) ≡ members edge h q + bit (member edge h a)
  members_push [] a = omega arith
  members_push (b ∷ q) a = omega (arith, members_push q a)

  -- The last courses, from the newest on or in their order, have as many members.
  members_last : (q : List ℕ) (m : ℕ) → members edge h (take m (reverse q)) ≡ members edge h (last m q)
  members_last =
      by_last (λ q. (m : ℕ) → members edge h (take m (reverse q)) ≡ members edge h (last m q))
      (λ m. ap (members edge h) (take-nil m) ∙ ap (members edge h) (sym (drop_all (0 - m) [] (omega arith))))
      more
    where
      more : (q : List ℕ) (a : ℕ) → ((m : ℕ) → members edge h (take m (reverse q)) ≡ members edge h (last m q)) → (m : ℕ) → members edge h (take m (reverse (q ++ a ∷ []))) ≡ members edge h (last m (q ++ a ∷ []))
      more q a ih zero = ap (members edge h) (sym (drop_all (length (q ++ a ∷ []) - 0) (q ++ a ∷ []) (omega arith)))
      more q a ih (suc m) =
          let cut : length (q ++ a ∷ []) - suc m ≡ length q - m = omega (arith, length_push q a) in
          ap (λ u. members edge h (take (suc m) u)) (reverse-append q (a ∷ []))
          ∙ omega (arith, ih m, members_push (last m q) a)
          ∙ sym (ap (members edge h) (ap (λ i. drop i (q ++ a ∷ [])) cut ∙ drop-append-le (length q - m) q (a ∷ []) (omega arith)))

module _ (k m : ℕ) (edge : Edge) (h : ℕ) (lo : 1 ≤ h) (hi : h ≤ 1023) where
  inside : (q : List ℕ) → ltb (code edge h (take m q)) (cond (valid h) (2 ^ m) 0) ≡ true
  inside q = grind (arith, nat_tests, code_below edge h m q)

  -- The state after a sequence has the memberships of its last m symbols.
  state_is : (q : List ℕ) → Symbols 16 q → end_state (zone k m edge).moves h q ≡ code edge h (take m (reverse q))
  state_is =
      by_last (λ q. Symbols 16 q → end_state (zone k m edge).moves h q ≡ code edge h (take m (reverse q)))
      (λ y. ap (code edge h) (sym (take-nil m)))
      (λ q a ih y.
      let past = symbols_last 16 q a y in
      end_push (zone k m edge).moves h q a
      ∙ ap (λ s. (zone k m edge).moves.step h s a) (ih past.0)
      ∙ cond-true _ _ 0 (and_from _ _ (inside (reverse q)) (lt-ltb a 16 past.1))
      ∙ code_next edge h m a (reverse q)
      ∙ ap (λ u. code edge h (take m u)) (sym (reverse-append q (a ∷ []))))

  alarm_is : (q : List ℕ) → Symbols 16 q → alarms_after (zone k m edge).moves h q ≡ leb k (members edge h (last m q))
  alarm_is q y =
      ap (λ s. (zone k m edge).moves.alarm h s) (state_is q y)
      ∙ ap (λ b. b && leb k (ones (code edge h (take m (reverse q))))) (inside (reverse q))
      ∙ ap (leb k) (code_ones edge h (take m (reverse q)) ∙ members_last edge h q m)

pub zone_alarms : (k m : ℕ) (edge : Edge) → AlarmsByMembers k m edge (zone k m edge).moves
zone_alarms k m edge = record {
  exactly = λ h lo hi q y. let is = alarm_is k m edge h lo hi q y in (λ e. grind (arith, nat_tests), λ l. grind (arith, nat_tests));
}
