use Rattle.unit_model.specs.Standing.{nothing_yet}
use Rattle.bench_units.proofs.uplink.steps.made.Goals as goal

pub returns-in-Ok : goal.returns-in-Ok
returns-in-Ok c = record { history = nothing_yet; stands = c.in-Ok.ensures.stands; given = c.in-Ok.ensures.given }
