use Rattle.std.proofs.Common.{◌≡◌, length}
use Rattle.frame_ways.specs.SendQueues.{all_queued}
use Rattle.frame_ways.proofs.send_queue.SendQueue.fill.Given as goal

abbrev pub invariant-loop-frame : goal.invariant-loop-frame
invariant-loop-frame l = record {
  so_far : all_queued l.outbox.frames l.self ≡ all_queued l.initial.outbox.frames l.initial.self;
  pool : l.outbox.pool ≡ l.initial.outbox.pool;
}

abbrev pub decreases-loop-frame : goal.decreases-loop-frame
decreases-loop-frame l = length l.outbox.frames
