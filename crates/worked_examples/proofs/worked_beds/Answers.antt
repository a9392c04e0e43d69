use Rattle.std.proofs.Common.{refl}
use Rattle.tables.specs.Figures.{good_caught, off_caught, mildest, can_stop}
use Rattle.tables.specs.Table.{caught_from}
use Rattle.worked_examples.specs.Beds.{worked_beds}
use Rattle.worked_examples.proofs.ClaimTests.{all_true}
use Rattle.worked_examples.proofs.worked_beds.Goals as goal

-- The checker computes every claim of the list.
pub returns : goal.returns
unfolding good_caught off_caught mildest can_stop caught_from
returns c = record { count = refl; hold = all_true worked_beds refl }
