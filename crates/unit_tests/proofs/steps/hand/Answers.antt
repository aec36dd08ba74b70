use Rattle.unit_model.specs.Standing.{arrived}
use Rattle.unit_tests.proofs.steps.hand.Goals as goal

pub returns-clause-unit : goal.returns-clause-unit
returns-clause-unit c =
    let some = c.requires.unit in
    record { config = some.config; history = arrived some.history c.args.frame.now; stands = c.deliver.ensures.stands some.config some.history some.stands }
