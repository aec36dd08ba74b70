use Rattle.std.proofs.Common.{refl}
use Rattle.uplink_path.proofs.StepLemmas.{unit_passed}
use Rattle.schedule_tests.proofs.uplink_steps.step.Goals as goal

pub advance-requires-clause-unit : goal.advance-requires-clause-unit
advance-requires-clause-unit c = record { config = c.args.config.now; history = c.requires.history; stands = c.requires.stands }

pub returns : goal.returns
returns c =
    let k = c.args.config.now in
    let h = c.requires.history in
    unit_passed _ _ k h c.args.to.0 c.advance.new.self c.args.air.now c.advance.new.air c.advance.result
    (c.advance.ensures.stands k h c.requires.stands) (c.advance.ensures.past k h c.requires.stands (c.if-not-is_quiet_before.ensures k h c.requires.stands refl))
    (c.advance.ensures.stop k h c.requires.stands) c.advance.ensures.given
