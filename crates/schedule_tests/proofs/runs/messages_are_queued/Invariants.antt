use Rattle.du_scheduler.specs.Queues.{IsQueue}
use Rattle.schedule_tests.proofs.runs.messages_are_queued.Given as goal

abbrev pub invariant-loop-turn : goal.invariant-loop-turn
invariant-loop-turn g l = IsQueue l.queue
