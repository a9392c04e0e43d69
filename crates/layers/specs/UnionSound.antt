-- A union owes what every chart owes.
use Rattle.charts.specs.Meaning.{Meaning, Sound}
use Rattle.layers.specs.PairsSound.{Ranged, coded_sound}
use Rattle.layers.specs.Union.{both, union}

pub both_ranged : (p q : Meaning) → Sound p → Sound q → Ranged (both p q)
both_ranged p q sp sq = record {
  range = sp.count_range;
  left_start_below = sp.start_below;
  right_start_below = sq.start_below;
  left_step_below = sp.step_below;
  right_step_below = λ h x y a. sq.step_below h y a;
}

pub union_sound : (p q : Meaning) → Sound p → Sound q → Sound (union p q)
union_sound p q sp sq = coded_sound (both p q) (both_ranged p q sp sq)
