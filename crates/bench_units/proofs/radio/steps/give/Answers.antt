use Rattle.bench_units.proofs.UnitLemmas.{gave}
use Rattle.bench_units.proofs.radio.steps.give.Goals as goal

pub returns-clause-unit : goal.returns-clause-unit
returns-clause-unit c =
    let some = c.requires.unit in
    gave some.config some.history c.next_uplink.result c.args.ru.now c.next_uplink.new.self some.stands
    (c.next_uplink.ensures.given some.config some.history some.stands) c.next_uplink.ensures.same
