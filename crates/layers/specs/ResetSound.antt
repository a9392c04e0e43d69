-- A reset owes what every chart owes.
use Rattle.std.specs.Prelude.{◌≡◌, ℕ, ◌<◌, ◌≤◌}
use Rattle.std.proofs.Common.{ap, ◌∙◌, arith}
use Rattle.std.proofs.lemmas.Bool.{cond-false, cond_both}
use Rattle.charts.specs.Meaning.{Meaning, Sound}
use Rattle.layers.specs.Reset.{reset}

-- Past the count a state does not alarm, and so the step from it is the step below, which is 0.
pub past_reset : (p : Meaning) → Sound p → (h s a : ℕ) → p.count h ≤ s → (reset p).moves.step h s a ≡ 0
past_reset p sp h s a l =
    ap (λ t. p.moves.step h t a) (cond-false (p.moves.alarm h s) (p.moves.start h) s (sp.alarm_past h s l)) ∙ sp.step_past h s a l

pub reset_sound : (p : Meaning) → Sound p → Sound (reset p)
reset_sound p sp = record {
  count_most = sp.count_most;
  count_range = sp.count_range;
  start_below = sp.start_below;
  start_none = sp.start_none;
  step_below = λ h s a l b.
      sp.step_below h _ a
      (cond_both (p.moves.alarm h s) (p.moves.start h) s (λ t. t < p.count h) (λ e. sp.start_below h (omega arith)) (λ e. l))
      b;
  step_past = past_reset p sp;
  step_symbol = λ h s a l. sp.step_symbol h _ a l;
  alarm_past = sp.alarm_past;
}
