-- A reset ends where the chart below does after only the symbols since its latest alarm.
use Rattle.std.proofs.Common.{◌≡◌, ℕ, ◌<◌, true, false, List, [], ◌∷◌, ◌++◌, length, take, drop, sym, refl, ap, ◌∙◌, ⊎_elim, arith}
use Rattle.std.proofs.lemmas.List.{length_push, take_at, take-append-le, drop_at, drop-append-le}
use Rattle.std.proofs.lemmas.Bool.{cases_lt, cond-true, cond-false}
use Rattle.std.proofs.lemmas.Bool.Decides.{nat_tests}
use Rattle.charts.specs.Meaning.{Meaning}
use Rattle.charts.specs.Runs.{end_state, alarms_after}
use Rattle.charts.proofs.RunsByLast.{by_last, end_push}
use Rattle.layers.specs.Reset.{reset}
use Rattle.layers.specs.ResetLaw.{QuietSince, LatestAlarm, BeginsAnew}

module _ (p : Meaning) (h : ℕ) where
  -- What is said of a sequence, of its front before one symbol more.
  quiet_front : (i : ℕ) (q : List ℕ) (a : ℕ) → QuietSince i (reset p).moves h (q ++ a ∷ []) → QuietSince i (reset p).moves h q
  quiet_front i q a quiet j l b =
      ap (alarms_after (reset p).moves h) (sym (take-append-le j q (a ∷ []) (omega arith)))
      ∙ quiet j l (omega (arith, length_push q a))

  latest_front : (i : ℕ) (q : List ℕ) (a : ℕ) → i < length q → LatestAlarm i (reset p).moves h (q ++ a ∷ []) → LatestAlarm i (reset p).moves h q
  latest_front i q a l r = record {
    course = r.course;
    before_last = l;
    alarmed = ap (alarms_after (reset p).moves h) (sym (take-append-le i q (a ∷ []) (omega arith))) ∙ r.alarmed;
    quiet = quiet_front i q a r.quiet;
  }

  -- Whether the state after the whole front alarms.
  front_alarm : (i : ℕ) (q : List ℕ) (a : ℕ) → length q ≡ i → alarms_after (reset p).moves h (take i (q ++ a ∷ [])) ≡ alarms_after (reset p).moves h q
  front_alarm i q a e = ap (alarms_after (reset p).moves h) (take_at q (a ∷ []) i e)

  -- A step from a state, by whether that alarms.
  step_quiet : (q : List ℕ) (a : ℕ) → alarms_after (reset p).moves h q ≡ false → end_state (reset p).moves h (q ++ a ∷ []) ≡ p.moves.step h (end_state (reset p).moves h q) a
  step_quiet q a f = end_push (reset p).moves h q a ∙ ap (λ s. p.moves.step h s a) (cond-false _ _ _ f)

  step_alarm : (q : List ℕ) (a : ℕ) → alarms_after (reset p).moves h q ≡ true → end_state (reset p).moves h (q ++ a ∷ []) ≡ end_state p.moves h (a ∷ [])
  step_alarm q a t = end_push (reset p).moves h q a ∙ ap (λ s. p.moves.step h s a) (cond-true _ _ _ t)

  record Anew (q : List ℕ) : Type 0 where
    since : (i : ℕ) → LatestAlarm i (reset p).moves h q → end_state (reset p).moves h q ≡ end_state p.moves h (drop i q)
    whole : QuietSince 0 (reset p).moves h q → end_state (reset p).moves h q ≡ end_state p.moves h q

  since_push : (q : List ℕ) (a : ℕ) → Anew q → (i : ℕ) → LatestAlarm i (reset p).moves h (q ++ a ∷ []) → end_state (reset p).moves h (q ++ a ∷ []) ≡ end_state p.moves h (drop i (q ++ a ∷ []))
  since_push q a ih i r =
      ⊎_elim
      (λ before.
      step_quiet q a (sym (front_alarm (length q) q a refl) ∙ r.quiet (length q) before (omega (arith, length_push q a)))
      ∙ ap (λ s. p.moves.step h s a) (ih.since i (latest_front i q a before r))
      ∙ sym (end_push p.moves h (drop i q) a)
      ∙ ap (end_state p.moves h) (sym (drop-append-le i q (a ∷ []) (omega arith))))
      (λ past.
      let b = r.before_last in
      let last : length q ≡ i = omega (arith, length_push q a) in
      step_alarm q a (sym (front_alarm i q a last) ∙ r.alarmed)
      ∙ ap (end_state p.moves h) (sym (drop_at q (a ∷ []) i last)))
      (cases_lt i (length q))

  whole_push : (q : List ℕ) (a : ℕ) → Anew q → QuietSince 0 (reset p).moves h (q ++ a ∷ []) → end_state (reset p).moves h (q ++ a ∷ []) ≡ end_state p.moves h (q ++ a ∷ [])
  whole_push [] a ih quiet = grind (arith, nat_tests)
  whole_push (b ∷ q) a ih quiet =
      step_quiet (b ∷ q) a (sym (front_alarm (length (b ∷ q)) (b ∷ q) a refl) ∙ quiet (length (b ∷ q)) (omega arith) (omega (arith, length_push (b ∷ q) a)))
      ∙ ap (λ s. p.moves.step h s a) (ih.whole (quiet_front 0 (b ∷ q) a quiet))
      ∙ sym (end_push p.moves h (b ∷ q) a)

  anew : (q : List ℕ) → Anew q
  anew =
      by_last Anew
      (record { since = λ i r. let b = r.before_last in absurd (omega arith); whole = λ quiet. refl })
      (λ q a ih. record { since = since_push q a ih; whole = whole_push q a ih })

pub reset_begins_anew : (p : Meaning) → BeginsAnew p.moves (reset p).moves
reset_begins_anew p = record {
  after_alarm = λ h i q r. (anew p h q).since i r;
  without_alarm = λ h q quiet. (anew p h q).whole quiet;
}
