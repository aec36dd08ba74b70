use Rattle.std.proofs.Common.{List, ◌++◌, ap, sym, subst, ◌∙◌}
use Rattle.air_source.specs.declared.links.LinkFrame.{LinkFrame}
use Rattle.frame_ways.specs.SendQueues.{WaitsFor, all_queued}
use Rattle.frame_ways.proofs.SendQueueLemmas.{waits_for_all}
use Rattle.frame_ways.proofs.send_queue.SendQueue.fill.Goals as goal

pub loop-frame-preserved : goal.loop-frame-preserved
loop-frame-preserved c =
    let left = c.take_first.new.self.frames in
    record {
      so_far = ap (all_queued left) c.in_ok-put.ensures.ok ∙ ap (λ (fs : List LinkFrame). all_queued fs c.loop-frame.self) (sym c.in-Some.ensures.frames) ∙ c.loop-frame.invariant.so_far;
      pool = c.take_first.ensures.pool ∙ c.loop-frame.invariant.pool;
    }

pub returns-clause-waits : goal.returns-clause-waits
returns-clause-waits c n now handed w few from =
    let all = ap (λ (fs : List LinkFrame). all_queued fs c.loop-frame.self) (sym c.in_default.ensures.frames.0) ∙ c.loop-frame.invariant.so_far in
    subst (λ (q : List LinkFrame). WaitsFor n now (handed ++ c.args.outbox.now.frames) q) (sym all) (waits_for_all n now handed c.args.outbox.now.frames c.args.self.now w few from)
