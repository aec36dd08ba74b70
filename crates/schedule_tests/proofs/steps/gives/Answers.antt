use Rattle.du_scheduler.proofs.PlanLemmas.{still_plan}
use Rattle.schedule_tests.proofs.steps.gives.Goals as goal

pub returns-then-sent-wanted-2 : goal.returns-then-sent-wanted-2
returns-then-sent-wanted-2 c = still_plan c.args.plan.now c.next_frame.follows.lender-at-none c.next_frame.result c.next_frame.follows.holds-at-none c.requires

pub returns-else-sent-wanted-2 : goal.returns-else-sent-wanted-2
returns-else-sent-wanted-2 c = still_plan c.args.plan.now c.next_frame.follows.lender-at-none c.next_frame.result c.next_frame.follows.holds-at-none c.requires
