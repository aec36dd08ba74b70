use Rattle.du_scheduler.proofs.PlanLemmas.{still_plan}
use Rattle.bench_plans.proofs.schedule.sending.send_all.Goals as goal

pub loop-preserved : goal.loop-preserved
loop-preserved c = still_plan c.loop.plan c.next_frame.follows.lender-at-none c.next_frame.result c.next_frame.follows.holds-at-none c.loop.invariant
