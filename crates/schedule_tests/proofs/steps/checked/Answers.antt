use Rattle.du_scheduler.proofs.PlanLemmas.{plan_checked}
use Rattle.schedule_tests.proofs.steps.checked.Goals as goal

pub returns : goal.returns
returns c = plan_checked c.args.config.now c.args.lines.now c.check.result c.check.ensures
