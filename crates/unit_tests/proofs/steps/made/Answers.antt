use Rattle.unit_tests.proofs.StepLemmas.{some_at_first}
use Rattle.unit_tests.proofs.steps.made.Goals as goal

pub returns-clause-unit : goal.returns-clause-unit
returns-clause-unit c = some_at_first c.args.config.now c.make.result c.make.ensures.stands
