-- The charts of the program, and the stops of each.
use Rattle.std.specs.Prelude.{◌≡◌}
use Rattle.charts.specs.Zone.{zone}
use Rattle.charts.specs.declared.edge.Edge.TheVariants.{At}
use Rattle.layers.specs.Confirm.{confirm}
use Rattle.layers.specs.HeadStart.{head_start}
use Rattle.layers.specs.Reset.{reset}
use Rattle.layers.specs.Union.{union}
use Rattle.moving_sum.specs.MovingSum.{moving_sum}
use Rattle.moving_sum.specs.Stops.{stops}
use Rattle.moving_sum.specs.declared.layered.Stops.{Stops}

-- Each number is the weight of the sequences that its chart stops at the limit 3.
pub record Counted (s : Stops) : Type 0 where
  pub alone : s.alone ≡ stops moving_sum 3
  pub led : s.led ≡ stops (head_start 2 1 moving_sum) 3
  pub either : s.either ≡ stops (union moving_sum (zone 2 2 (At 1))) 3
  pub twice : s.twice ≡ stops (confirm 2 moving_sum) 3
  pub anew : s.anew ≡ stops (reset moving_sum) 3
  pub anew_twice : s.anew_twice ≡ stops (confirm 2 (reset moving_sum)) 3
