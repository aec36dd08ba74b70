use Rattle.std.proofs.Common.{◌-ℤ◌, pos}
use Rattle.unit_laws.proofs.HistoryTicks.{one_before}
use Rattle.schedule_tests.proofs.uplink_steps.is_quiet_before.Goals as goal

pub returns-in-Some : goal.returns-in-Some
returns-in-Some c k h all is =
    ((c.in-Some.ensures k h all).before (c.args.to.0 -ℤ pos 1) (one_before c.args.to.0 c.in-Some.moment.0 (c.is_by.ensures is))).messages

pub returns-in-None : goal.returns-in-None
returns-in-None c k h all is = (c.in-None.ensures k h all (c.args.to.0 -ℤ pos 1)).messages
