use Rattle.du_scheduler.specs.Filling.{IsFilled}
use Rattle.du_scheduler.proofs.queues.queue_of.Given as goal

abbrev pub invariant-loop-run : goal.invariant-loop-run
invariant-loop-run l = IsFilled l.gap l.runs l.run-index l.queue
