use Rattle.std.proofs.Common.{refl}
use Rattle.ru_buffers.specs.Calls.{HasGivenPast}
use Rattle.unit_tests.proofs.StepLemmas.{both_ways, some_passed}
use Rattle.unit_tests.proofs.steps.step.Goals as goal

pub returns-clause-unit : goal.returns-clause-unit
returns-clause-unit c =
    let some = c.requires.unit in
    some_passed _ _ some.config some.history c.args.to.0 c.advance.new.self c.args.air.now c.advance.new.air c.advance.result
    (c.advance.ensures.stands some.config some.history some.stands) (c.advance.ensures.stop some.config some.history some.stands)

pub returns-clause-given : goal.returns-clause-given
returns-clause-given c =
    let some = c.requires.unit in
    both_ways (HasGivenPast c.advance.new.self) c.advance.result
    (c.advance.ensures.past some.config some.history some.stands (c.if-not-is_quiet_before.ensures some.config some.history some.stands refl)) c.advance.ensures.given
