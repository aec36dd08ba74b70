use Rattle.std.proofs.Common.{sym, ◌∙◌}
use Rattle.schedule_tests.proofs.uplink_steps.clock_of.Goals as goal

pub returns : goal.returns
returns c = c.clock.ensures c.args.config.now c.requires.history c.requires.stands ∙ sym c.requires.stands.kept.clock_is
