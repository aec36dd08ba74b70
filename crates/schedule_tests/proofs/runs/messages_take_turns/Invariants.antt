use Rattle.du_scheduler.specs.Queues.{IsQueue}
use Rattle.schedule_tests.proofs.runs.messages_take_turns.Given as goal

abbrev pub invariant-loop-turn : goal.invariant-loop-turn
invariant-loop-turn g l = IsQueue l.queue
