-- A confirmation alarms exactly when the states below after each of the last c courses alarm.
use Rattle.std.proofs.Common.{◌≡◌, ℕ, zero, suc, ◌+◌, ◌-◌, ◌<◌, ◌≤◌, min, Bool, true, false, cond, eqb, ◌⊎◌, List, [], ◌∷◌, ◌++◌, length, take, sym, refl, ap, ◌∙◌, inl, inr, ⊎_elim, arith}
use Rattle.std.proofs.lemmas.List.{length_push, take_all, take-append-le}
use Rattle.std.proofs.lemmas.Bool.{eqb-true}
use Rattle.std.proofs.lemmas.Bool.Decides.{nat_tests}
use Rattle.charts.specs.Meaning.{Moves, Meaning, Sound}
use Rattle.charts.specs.RangesSound.{end_below}
use Rattle.charts.specs.Runs.{Symbols, end_state, alarms_after}
use Rattle.charts.proofs.RunsByLast.{by_last, symbols_last, end_push}
use Rattle.layers.specs.Confirm.{in_a_row, confirm}
use Rattle.layers.specs.ConfirmLaw.{Confirmed, AlarmsInARow}
use Rattle.layers.specs.PairsSound.{parts}
use Rattle.layers.proofs.PairsRuns.{code, code_start, code_step, code_alarm}

-- All but i + 1 courses of a sequence with one more are all but i of the sequence.
but_push : (q : List ℕ) (a i : ℕ) → take (length (q ++ a ∷ []) - suc i) (q ++ a ∷ []) ≡ take (length q - i) q
but_push q a i =
    let cut : length (q ++ a ∷ []) - suc i ≡ length q - i = omega (arith, length_push q a) in
    ap (λ n. take n (q ++ a ∷ [])) cut ∙ take-append-le (length q - i) q (a ∷ []) (omega arith)

module _ (c : ℕ) (m : Moves) (h : ℕ) where
  -- The last j courses of q are those of its last row of alarms, of which at most c are counted.
  record Row (q : List ℕ) (j : ℕ) : Type 0 where
    most : j ≤ c
    long : j ≤ length q
    alarmed : (i : ℕ) → i < j → alarms_after m h (take (length q - i) q) ≡ true
    broken : j < c → (j ≡ length q) ⊎ (alarms_after m h (take (length q - j) q) ≡ false)

  grown_alarmed : (q : List ℕ) (a j : ℕ) → Row q j → alarms_after m h (q ++ a ∷ []) ≡ true → (i : ℕ) → i < min (j + 1) c → alarms_after m h (take (length (q ++ a ∷ []) - i) (q ++ a ∷ [])) ≡ true
  grown_alarmed q a j r e zero l = ap (alarms_after m h) (take_all _ (q ++ a ∷ []) (omega arith)) ∙ e
  grown_alarmed q a j r e (suc i) l = ap (alarms_after m h) (but_push q a i) ∙ r.alarmed i (omega arith)

  row_push : (q : List ℕ) (a j : ℕ) → Row q j → (f : Bool) → alarms_after m h (q ++ a ∷ []) ≡ f → Row (q ++ a ∷ []) (cond f (min (j + 1) c) 0)
  row_push q a j r true e = record {
    most = omega arith;
    long = let k = r.long in omega (arith, length_push q a);
    alarmed = grown_alarmed q a j r e;
    broken = λ l.
        let one : min (j + 1) c ≡ suc j = omega arith in
        ⊎_elim
        (λ all. inl (omega (arith, length_push q a)))
        (λ quiet. inr (ap (λ i. alarms_after m h (take (length (q ++ a ∷ []) - i) (q ++ a ∷ []))) one ∙ ap (alarms_after m h) (but_push q a j) ∙ quiet))
        (r.broken (omega arith));
  }
  row_push q a j r false e = record {
    most = omega arith;
    long = omega arith;
    alarmed = λ i l. absurd (omega arith);
    broken = λ l. inr (ap (alarms_after m h) (take_all _ (q ++ a ∷ []) (omega arith)) ∙ e);
  }

  row_none : Row [] 0
  row_none = record { most = omega arith; long = omega arith; alarmed = λ i l. absurd (omega arith); broken = λ l. inl refl }

  row_confirms : (q : List ℕ) (j : ℕ) → Row q j → eqb j c ≡ true → Confirmed c m h q
  row_confirms q j r e =
      let whole : j ≡ c = eqb-true j c e in
      let k = r.long in
      record { enough = omega arith; each = λ i l. r.alarmed i (omega arith) }

  confirmed_row : (q : List ℕ) (j : ℕ) → Row q j → Confirmed c m h q → eqb j c ≡ true
  confirmed_row q j r d =
      let most = r.most in
      let long = d.enough in
      let broken = r.broken in
      let each = d.each j in
      grind (arith, nat_tests)

module _ (c : ℕ) (p : Meaning) (sp : Sound p) (h : ℕ) (some : 0 < (confirm c p).count h) where
  below : (q : List ℕ) → end_state p.moves h q < p.count h
  below q = end_below p sp h q (parts (p.count h) (c + 1) 0 some).left_some

  -- The state after q has the state below and the length of the last row.
  record After (q : List ℕ) : Type 0 where
    row : ℕ
    is : end_state (confirm c p).moves h q ≡ code (in_a_row c p) h some (end_state p.moves h q) row
    so : Row c p.moves h q row

  after : (q : List ℕ) → Symbols 16 q → After q
  after =
      by_last (λ q. Symbols 16 q → After q)
      (λ y. record { row = 0; is = code_start (in_a_row c p) h some; so = row_none c p.moves h })
      (λ q a ih y.
      let past = symbols_last 16 q a y in
      let r = ih past.0 in
      let next : ℕ = p.moves.step h (end_state p.moves h q) a in
      let most = r.so.most in
      let row : ℕ = cond (p.moves.alarm h next) (min (r.row + 1) c) 0 in
      record {
        row = row;
        is =
            end_push (confirm c p).moves h q a
            ∙ ap (λ s. (confirm c p).moves.step h s a) r.is
            ∙ code_step (in_a_row c p) h some _ r.row a (below q) (omega arith) past.1
            ∙ ap (λ x. code (in_a_row c p) h some x row) (sym (end_push p.moves h q a));
        so = row_push c p.moves h q a r.row r.so (p.moves.alarm h next) (ap (p.moves.alarm h) (end_push p.moves h q a));
      })

  alarm_is : (q : List ℕ) (r : After q) → alarms_after (confirm c p).moves h q ≡ eqb r.row c
  alarm_is q r =
      let most = r.so.most in
      ap ((confirm c p).moves.alarm h) r.is ∙ code_alarm (in_a_row c p) h some _ r.row (below q) (omega arith)

pub confirm_alarms : (c : ℕ) (p : Meaning) → Sound p → AlarmsInARow c p (confirm c p)
confirm_alarms c p sp = record {
  exactly = λ h some q y.
      let r = after c p sp h some q y in
      let e = alarm_is c p sp h some q r in (
        λ t. row_confirms c p.moves h q r.row r.so (sym e ∙ t),
        λ d. e ∙ confirmed_row c p.moves h q r.row r.so d,
      );
}
