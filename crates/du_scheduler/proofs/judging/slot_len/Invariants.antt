use Rattle.schedule_laws.proofs.SlotRunLemmas.{SameTo}
use Rattle.du_scheduler.proofs.judging.slot_len.Given as goal

abbrev pub invariant-loop-k : goal.invariant-loop-k
invariant-loop-k l = SameTo l.lines l.k
