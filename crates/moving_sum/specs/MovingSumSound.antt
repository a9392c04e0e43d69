-- A moving sum owes what every chart owes.
use Rattle.std.specs.Prelude.{refl}
use Rattle.std.proofs.Common.{arith}
use Rattle.std.proofs.lemmas.Bool.Decides.{nat_tests}
use Rattle.charts.specs.Meaning.{Sound}
use Rattle.moving_sum.specs.MovingSum.{moving_sum}

pub moving_sum_sound : Sound moving_sum
moving_sum_sound = record {
  count_most = λ h. grind (arith, nat_tests);
  count_range = λ h p. grind (arith, nat_tests);
  start_below = λ h p. p;
  start_none = λ h e. refl;
  step_below = λ h s a l b. grind (arith, nat_tests);
  step_past = λ h s a l. grind (arith, nat_tests);
  step_symbol = λ h s a l. grind (arith, nat_tests);
  alarm_past = λ h s l. grind (arith, nat_tests);
}
