use Rattle.std.proofs.Common.{subst}
use Rattle.std.specs.Prelude.{IsPermutation}
use Rattle.frame_ways.proofs.QueueLemmas.{placed}
use Rattle.frame_ways.proofs.queue.LandingQueue.make.Goals as goal

pub returns-clause-placed : goal.returns-clause-placed
returns-clause-placed c = placed c.args.times.now c.sort_by_time.new.landings.items (subst (λ l. IsPermutation l c.sort_by_time.new.landings.items) c.in_ok-landings.ensures c.sort_by_time.ensures.elements)
