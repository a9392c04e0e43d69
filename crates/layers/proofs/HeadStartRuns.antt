-- A head start ends and stops as the chart below does after the lead.
use Rattle.std.proofs.Common.{◌≡◌, ℕ, ◌+◌, true, ◌||◌, List, [], ◌∷◌, ◌++◌, replicate, sym, refl, ap, ◌∙◌, ⊎_elim, append_assoc}
use Rattle.std.proofs.lemmas.List.{replicate_more}
use Rattle.std.proofs.lemmas.Bool.{or_cases, or_left, or_right, false≢true}
use Rattle.charts.specs.Meaning.{Moves, Meaning}
use Rattle.charts.specs.Runs.{run_from, end_state, alarms_after, stops_from, AlarmsWithin}
use Rattle.charts.proofs.RunsByLast.{end_push}
use Rattle.layers.specs.HeadStart.{head_start}
use Rattle.layers.specs.HeadStartLaw.{Led}

run_append : (m : Moves) (h s : ℕ) (p q : List ℕ) → run_from m h s (p ++ q) ≡ run_from m h (run_from m h s p) q
run_append m h s [] q = refl
run_append m h s (a ∷ p) q = run_append m h _ p q

-- One read of the symbol more.
pub read_more : (m : Moves) (h a n s : ℕ) → s ≡ end_state m h (replicate n a) → m.step h s a ≡ end_state m h (replicate (n + 1) a)
read_more m h a n s e =
    ap (λ t. m.step h t a) e ∙ sym (end_push m h (replicate n a) a) ∙ ap (end_state m h) (replicate_more n a)

module _ (m : Moves) (h : ℕ) where
  found : (q first : List ℕ) → stops_from m h (end_state m h first) q ≡ true → AlarmsWithin m h first q
  found [] first e = absurd (false≢true e)
  found (a ∷ q) first e =
      ⊎_elim
      (λ here. record { front = []; symbol = a; rest = q; is = refl; alarms = ap (m.alarm h) (end_push m h first a) ∙ here })
      (λ later.
      let r = found q (first ++ a ∷ []) (ap (λ s. stops_from m h s q) (end_push m h first a) ∙ later) in
      record {
        front = a ∷ r.front;
        symbol = r.symbol;
        rest = r.rest;
        is = ap (λ u. a ∷ u) r.is;
        alarms = ap (alarms_after m h) (sym (append_assoc first (a ∷ []) (r.front ++ r.symbol ∷ []))) ∙ r.alarms;
      })
      (or_cases _ _ e)

  -- An alarm after a front of the courses stops the sequence.
  stops_at : (front first : List ℕ) (a : ℕ) (rest : List ℕ) → alarms_after m h (first ++ (front ++ a ∷ [])) ≡ true → stops_from m h (end_state m h first) (front ++ a ∷ rest) ≡ true
  stops_at [] first a rest e = or_left _ _ (sym (ap (m.alarm h) (end_push m h first a)) ∙ e)
  stops_at (b ∷ front) first a rest e =
      or_right _ _
      (sym (ap (λ s. stops_from m h s (front ++ a ∷ rest)) (end_push m h first b))
      ∙ stops_at front (first ++ b ∷ []) a rest (ap (alarms_after m h) (append_assoc first (b ∷ []) (front ++ a ∷ [])) ∙ e))

module _ (a n : ℕ) (p : Meaning) (h : ℕ) where
  same_run : (q : List ℕ) (s : ℕ) → run_from (head_start a n p).moves h s q ≡ run_from p.moves h s q
  same_run [] s = refl
  same_run (b ∷ q) s = same_run q _

  same_stops : (q : List ℕ) (s : ℕ) → stops_from (head_start a n p).moves h s q ≡ stops_from p.moves h s q
  same_stops [] s = refl
  same_stops (b ∷ q) s = ap (λ r. p.moves.alarm h (p.moves.step h s b) || r) (same_stops q _)

pub head_start_led : (a n : ℕ) (p : Meaning) → Led a n p.moves (head_start a n p).moves
head_start_led a n p = record {
  ends = λ h q. same_run a n p h q _ ∙ sym (run_append p.moves h _ (replicate n a) q);
  stops = λ h q. (
    λ e. found p.moves h q (replicate n a) (sym (same_stops a n p h q _) ∙ e),
    λ r.
        same_stops a n p h q _
        ∙ ap (stops_from p.moves h (end_state p.moves h (replicate n a))) r.is
        ∙ stops_at p.moves h r.front (replicate n a) r.symbol r.rest r.alarms,
  );
}
