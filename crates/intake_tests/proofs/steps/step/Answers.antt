use Rattle.std.proofs.Common.{◌≡◌, true, rules}
use Rattle.unit_model.specs.Standing.{arrived, at_clock}
use Rattle.intake_tests.proofs.steps.step.Goals as goal

pub returns : goal.returns
returns c =
    let s = c.requires.unit in
    let ready : c.has_reported.result ≡ true = search rules in
    record {
      config = s.config;
      planned = s.planned;
      history = arrived (at_clock s.history c.args.at.0) c.args.frame.now;
      stands = c.deliver.ensures.stands s.config s.planned s.history s.stands (c.has_reported.ensures s.config s.planned s.history s.stands ready);
    }
