-- A head start owes what every chart owes.
use Rattle.std.specs.Prelude.{◌≡◌, ℕ, List, [], ◌∷◌, replicate}
use Rattle.std.proofs.Common.{arith}
use Rattle.charts.specs.Meaning.{Meaning, Sound}
use Rattle.charts.specs.RangesSound.{end_below}
use Rattle.charts.specs.Runs.{run_from}
use Rattle.layers.specs.HeadStart.{head_start}

-- A chart without states stays in 0.
run_none : (p : Meaning) → Sound p → (h s : ℕ) (q : List ℕ) → p.count h ≡ 0 → s ≡ 0 → run_from p.moves h s q ≡ 0
run_none p sp h s [] e z = z
run_none p sp h s (a ∷ q) e z = run_none p sp h _ q e (sp.step_past h s a (omega arith))

pub head_start_sound : (a n : ℕ) (p : Meaning) → Sound p → Sound (head_start a n p)
head_start_sound a n p sp = record {
  count_most = sp.count_most;
  count_range = sp.count_range;
  start_below = λ h l. end_below p sp h (replicate n a) l;
  start_none = λ h e. run_none p sp h _ (replicate n a) e (sp.start_none h e);
  step_below = sp.step_below;
  step_past = sp.step_past;
  step_symbol = sp.step_symbol;
  alarm_past = sp.alarm_past;
}
