use Rattle.unit_model.specs.Standing.{at_clock, heard}
use Rattle.du_intake.specs.Units.{intake_due_of}
use Rattle.intake_tests.proofs.steps.close.Goals as goal

pub returns-in-Ok : goal.returns-in-Ok
returns-in-Ok g c =
    let s = c.requires.unit in
    record {
      config = s.config;
      planned = s.planned;
      history = at_clock (heard s.history (intake_due_of s.config s.planned s.history c.args.to.0)) c.args.to.0;
      stands = c.in-Ok.ensures.stands s.config s.planned s.history s.stands;
    }

pub returns-in-Err : goal.returns-in-Err
returns-in-Err g c =
    let s = c.requires.unit in
    let stop = c.in-Err.ensures.stop s.config s.planned s.history s.stands in
    record { config = s.config; planned = s.planned; history = heard s.history stop.told; stands = stop.stands }
