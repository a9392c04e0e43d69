use Rattle.layers.proofs.ConfirmRuns.{confirm_alarms}
use Rattle.layers.proofs.confirm.Confirm.new.Goals as goal

pub returns-clause-law : goal.returns-clause-law
returns-clause-law g c = confirm_alarms c.args.repeats.times _ (g.C.Chart.sound c.args.below)
