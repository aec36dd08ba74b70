use Rattle.du_scheduler.proofs.PlanStepLemmas.{At}
use Rattle.du_scheduler.proofs.judging.judge_slot.Given as goal

abbrev pub invariant-loop-line : goal.invariant-loop-line
invariant-loop-line l = At l.fn.ring.endpoint l.first.ep l.first.line.slot l.ring l.lines l.line-index
