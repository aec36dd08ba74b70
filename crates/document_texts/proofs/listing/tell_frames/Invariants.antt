use Rattle.std.proofs.Common.{◌≡◌, ◌+◌, ◌-◌, ◌^◌}
use Rattle.du_scheduler.specs.Queues.{IsQueue}
use Rattle.document_texts.proofs.SentTellLemmas.{Stands}
use Rattle.document_texts.proofs.listing.tell_frames.Given as goal

abbrev pub invariant-loop-turn : goal.invariant-loop-turn
invariant-loop-turn g l = record {
  queue : IsQueue l.queue;
  told : Stands l.document l.tally l.queue (g.K.Sink.written l.initial.out) l.initial.owed (g.K.Sink.written l.out) l.owed;
  still : g.K.Sink.faults l.out ≡ g.K.Sink.faults l.initial.out;
  refused_still : g.K.Sink.refusals l.out ≡ g.K.Sink.refusals l.initial.out;
}

abbrev pub decreases-loop-turn : goal.decreases-loop-turn
decreases-loop-turn g l = 2 ^ 40 - (l.tally.commands + l.tally.fragments)
