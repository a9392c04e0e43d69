-- A confirmation owes what every chart owes.
use Rattle.std.specs.Prelude.{ℕ}
use Rattle.std.proofs.Common.{arith}
use Rattle.std.proofs.lemmas.Bool.Decides.{nat_tests}
use Rattle.charts.specs.Meaning.{Meaning, Sound}
use Rattle.layers.specs.PairsSound.{Ranged, coded_sound}
use Rattle.layers.specs.Confirm.{in_a_row, confirm}

pub in_a_row_ranged : (c : ℕ) (p : Meaning) → Sound p → Ranged (in_a_row c p)
in_a_row_ranged c p sp = record {
  range = sp.count_range;
  left_start_below = sp.start_below;
  right_start_below = λ h l. l;
  left_step_below = sp.step_below;
  right_step_below = λ h x j a l b. grind (arith, nat_tests);
}

pub confirm_sound : (c : ℕ) (p : Meaning) → Sound p → Sound (confirm c p)
confirm_sound c p sp = coded_sound (in_a_row c p) (in_a_row_ranged c p sp)
