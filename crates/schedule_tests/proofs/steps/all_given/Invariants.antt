use Rattle.du_scheduler.specs.Plans.{IsPlan}
use Rattle.schedule_tests.proofs.steps.all_given.Given as goal

abbrev pub invariant-loop-frame : goal.invariant-loop-frame
invariant-loop-frame l = IsPlan l.plan
