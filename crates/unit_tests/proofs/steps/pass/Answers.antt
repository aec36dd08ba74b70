use Rattle.unit_tests.proofs.StepLemmas.{some_passed}
use Rattle.unit_tests.proofs.steps.pass.Goals as goal

pub returns-clause-unit : goal.returns-clause-unit
returns-clause-unit c =
    let some = c.requires.unit in
    some_passed _ _ some.config some.history c.args.to.0 c.advance.new.self c.args.air.now c.advance.new.air c.advance.result
    (c.advance.ensures.stands some.config some.history some.stands) (c.advance.ensures.stop some.config some.history some.stands)
