use Rattle.unit_model.specs.Standing.{arrived}
use Rattle.schedule_tests.proofs.uplink_steps.hand.Goals as goal

pub deliver-requires-clause-unit : goal.deliver-requires-clause-unit
deliver-requires-clause-unit c = record { config = c.args.config.now; history = c.requires.history; stands = c.requires.stands }

pub returns : goal.returns
returns c = record {
  history = arrived c.requires.history c.args.frame.now;
  stands = c.deliver.ensures.stands c.args.config.now c.requires.history c.requires.stands;
  given = c.deliver.ensures.given;
}
