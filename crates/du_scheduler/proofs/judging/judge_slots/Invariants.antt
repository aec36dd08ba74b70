use Rattle.std.proofs.Common.{length}
use Rattle.schedule_laws.specs.SlotOrder.{ep_of}
use Rattle.du_scheduler.proofs.WalkLemmas.{Left}
use Rattle.du_scheduler.proofs.judging.judge_slots.Given as goal

abbrev pub decreases-loop-rest : goal.decreases-loop-rest
decreases-loop-rest l = length l.rest

abbrev pub invariant-loop-rest : goal.invariant-loop-rest
invariant-loop-rest l = Left l.fn.ring.endpoint (ep_of l.lines) l.lines l.rest l.ring l.least
