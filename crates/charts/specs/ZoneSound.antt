-- A zone rule owes what every chart owes.
use Rattle.std.specs.Prelude.{ℕ, ◌≤◌, refl}
use Rattle.std.proofs.Common.{arith, pow_mono}
use Rattle.std.proofs.lemmas.Nat.{mod_below, pow_pos}
use Rattle.std.proofs.lemmas.Bool.Decides.{nat_tests}
use Rattle.charts.specs.Meaning.{Sound}
use Rattle.charts.specs.Zone.{zone}
use Rattle.charts.specs.declared.edge.Edge.{Edge}

pub zone_sound : (k m : ℕ) (edge : Edge) → m ≤ 8 → Sound (zone k m edge)
zone_sound k m edge short = record {
  count_most = λ h. grind (arith, nat_tests, pow_mono short);
  count_range = λ h p. grind (arith, nat_tests);
  start_below = λ h p. p;
  start_none = λ h e. refl;
  step_below = λ h s a l b. grind (arith, nat_tests, mod_below, pow_pos);
  step_past = λ h s a l. grind (arith, nat_tests);
  step_symbol = λ h s a l. grind (arith, nat_tests);
  alarm_past = λ h s l. grind (arith, nat_tests);
}
