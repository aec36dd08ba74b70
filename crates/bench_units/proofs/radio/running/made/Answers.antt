use Rattle.unit_model.specs.Standing.{nothing_yet}
use Rattle.bench_units.proofs.radio.running.made.Goals as goal

pub returns-in-Ok-clause-unit : goal.returns-in-Ok-clause-unit
returns-in-Ok-clause-unit c = record { config = c.args.config.now; history = nothing_yet; stands = c.in-Ok.ensures.stands }
