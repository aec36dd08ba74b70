use Rattle.du_scheduler.proofs.PlanLemmas.{still_plan}
use Rattle.schedule_tests.proofs.steps.is_over.Goals as goal

pub returns-then-is_none : goal.returns-then-is_none
returns-then-is_none c = still_plan c.args.plan.now c.next_frame.follows.lender-at-none c.next_frame.result c.next_frame.follows.holds-at-none c.requires
