-- A union is in the pair of the two states, and stops as either does.
use Rattle.std.proofs.Common.{◌≡◌, ℕ, ◌<◌, ◌||◌, List, [], ◌∷◌, ◌++◌, sym, refl, ap, ◌∙◌, arith}
use Rattle.std.proofs.lemmas.Bool.Decides.{nat_tests}
use Rattle.charts.specs.Meaning.{Meaning, Sound}
use Rattle.charts.specs.RangesSound.{end_below}
use Rattle.charts.specs.Runs.{Symbols, end_state, alarms_after, stopped}
use Rattle.charts.proofs.RunsByLast.{by_last, symbols_last, end_push, stops_push}
use Rattle.layers.specs.PairsSound.{parts}
use Rattle.layers.specs.Union.{both, union}
use Rattle.layers.specs.UnionLaw.{StopsAsEither}
use Rattle.layers.proofs.PairsRuns.{code, code_start, code_step, code_alarm}

module _ (p q : Meaning) (sp : Sound p) (sq : Sound q) (h : ℕ) (some : 0 < (union p q).count h) where
  left_below : (w : List ℕ) → end_state p.moves h w < p.count h
  left_below w = end_below p sp h w (parts (p.count h) (q.count h) 0 some).left_some

  right_below : (w : List ℕ) → end_state q.moves h w < q.count h
  right_below w = end_below q sq h w (parts (p.count h) (q.count h) 0 some).right_some

  pair_is : (w : List ℕ) → Symbols 16 w → end_state (union p q).moves h w ≡ code (both p q) h some (end_state p.moves h w) (end_state q.moves h w)
  pair_is =
      by_last (λ w. Symbols 16 w → end_state (union p q).moves h w ≡ code (both p q) h some (end_state p.moves h w) (end_state q.moves h w))
      (λ y. code_start (both p q) h some)
      (λ w a ih y.
      let past = symbols_last 16 w a y in
      let before = ih past.0 in
      let whole = end_push (union p q).moves h w a in
      let step = code_step (both p q) h some _ _ a (left_below w) (right_below w) past.1 in
      let left = end_push p.moves h w a in
      let right = end_push q.moves h w a in
      cc)

  alarm_is : (w : List ℕ) → Symbols 16 w → alarms_after (union p q).moves h w ≡ (alarms_after p.moves h w || alarms_after q.moves h w)
  alarm_is w y = ap ((union p q).moves.alarm h) (pair_is w y) ∙ code_alarm (both p q) h some _ _ (left_below w) (right_below w)

  -- A sequence with one symbol more is stopped where it was, or where the state after it alarms.
  stopped_push : (m : Meaning) (w : List ℕ) (a : ℕ) → stopped m.moves h (w ++ a ∷ []) ≡ (stopped m.moves h w || alarms_after m.moves h (w ++ a ∷ []))
  stopped_push m w a = stops_push m.moves h _ w a ∙ ap (λ s. stopped m.moves h w || m.moves.alarm h s) (sym (end_push m.moves h w a))

  stops_is : (w : List ℕ) → Symbols 16 w → stopped (union p q).moves h w ≡ (stopped p.moves h w || stopped q.moves h w)
  stops_is =
      by_last (λ w. Symbols 16 w → stopped (union p q).moves h w ≡ (stopped p.moves h w || stopped q.moves h w))
      (λ y. refl)
      (λ w a ih y.
      let v : List ℕ = w ++ a ∷ [] in
      let before = ih (symbols_last 16 w a y).0 in
      let now = alarm_is v y in
      let whole = stopped_push (union p q) w a in
      let left = stopped_push p w a in
      let right = stopped_push q w a in
      grind (arith, nat_tests))

pub union_stops : (p q : Meaning) → Sound p → Sound q → StopsAsEither p q (union p q)
union_stops p q sp sq = record {
  pair = λ h some w y. pair_is p q sp sq h some w y;
  alarms = λ h some w y. alarm_is p q sp sq h some w y;
  stops = λ h some w y. stops_is p q sp sq h some w y;
}
