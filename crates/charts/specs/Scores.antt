-- When the scores of a cusum are refused.
use Rattle.std.specs.Prelude.{ℕ, ◌<◌, ◌⊎◌, List, [], ◌∷◌, length, ℤ, pos, negsuc, ◌<ℤ◌, slice_index_or}
use Rattle.charts.specs.Checks.{Check, ◌if◌}

-- Some score is below -8 or above 8.
pub record Outside (scores : List ℤ) : Type 0 where
  pub symbol : ℕ
  pub within : symbol < length scores
  pub out : (slice_index_or scores symbol (pos 0) <ℤ negsuc 7) ⊎ (pos 8 <ℤ slice_index_or scores symbol (pos 0))

abbrev pub score_checks : List ℤ → List Check
score_checks scores = 23 if Outside scores ∷ []
