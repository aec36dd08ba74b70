use Rattle.unit_tests.proofs.StepLemmas.{some_given}
use Rattle.unit_tests.proofs.steps.take.Goals as goal

pub returns-clause-unit : goal.returns-clause-unit
returns-clause-unit c =
    let some = c.requires.unit in
    some_given some.config some.history c.args.unit.now c.next_uplink.new.self c.next_uplink.result some.stands
    (c.next_uplink.ensures.given some.config some.history some.stands) c.next_uplink.ensures.same
