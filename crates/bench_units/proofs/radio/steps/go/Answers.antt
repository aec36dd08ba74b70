use Rattle.unit_model.specs.Standing.{at_clock, heard}
use Rattle.ru_buffers.specs.Reporting.{due_of}
use Rattle.bench_units.proofs.radio.steps.go.Goals as goal

pub returns-in-Ok-clause-unit : goal.returns-in-Ok-clause-unit
returns-in-Ok-clause-unit g c _ =
    let some = c.requires.unit in
    record {
      config = some.config;
      history = at_clock (heard some.history (due_of some.config some.history c.args.next.0)) c.args.next.0;
      stands = c.in-Ok.ensures.stands some.config some.history some.stands;
    }

pub returns-in-Ok-clause-given : goal.returns-in-Ok-clause-given
returns-in-Ok-clause-given g c _ =
    let some = c.requires.unit in
    c.in-Ok.ensures.past some.config some.history some.stands (c.requires.none some.config some.history some.stands)
