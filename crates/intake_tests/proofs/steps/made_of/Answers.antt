use Rattle.unit_model.specs.Standing.{nothing_yet}
use Rattle.intake_tests.proofs.steps.made_of.Goals as goal
use Rattle.plan_model.specs.Lines.{uplink_allocations}

pub returns-in-Ok : goal.returns-in-Ok
returns-in-Ok c = record { config = c.args.config.now; planned = uplink_allocations c.args.lines.now; history = nothing_yet; stands = c.in-Ok.ensures }
