use Rattle.uplink_path.proofs.StepLemmas.{unit_at_first}
use Rattle.schedule_tests.proofs.uplink_steps.made.Goals as goal

pub returns : goal.returns
returns c = unit_at_first c.args.config.now c.make.result c.make.ensures.stands c.make.ensures.given
