use Rattle.du_scheduler.specs.Walks.{left_of}
use Rattle.du_scheduler.proofs.StepLemmas.{SoFar}
use Rattle.du_scheduler.proofs.cutting.stream_messages.Given as goal

abbrev pub invariant-loop-message : goal.invariant-loop-message
invariant-loop-message l = SoFar l.limits l.parts l.messages.runs.items l.messages.begins.items l.begin (left_of l.message-iterator)
