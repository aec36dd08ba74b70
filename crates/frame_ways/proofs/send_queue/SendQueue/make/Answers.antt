use Rattle.std.proofs.Common.{List, [], subst, sym}
use Rattle.frame_ways.specs.SendQueues.{WaitsFor}
use Rattle.frame_ways.proofs.SendQueueLemmas.{waits_for_none}
use Rattle.frame_ways.proofs.TurnLemmas.{Entry, frames}
use Rattle.frame_ways.proofs.send_queue.SendQueue.make.Goals as goal

pub returns-clause-waits : goal.returns-clause-waits
returns-clause-waits c n now = subst (λ (es : List Entry). WaitsFor n now [] (frames es)) (sym c.new.ensures.empty) (waits_for_none n now)
