use Rattle.du_scheduler.specs.Plans.{IsPlan}
use Rattle.bench_plans.proofs.schedule.sending.send_all.Given as goal

abbrev pub invariant-loop : goal.invariant-loop
invariant-loop l = IsPlan l.plan
