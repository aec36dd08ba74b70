use Rattle.std.proofs.Common.{◌≡◌}
use Rattle.pcap_frames.specs.Frames.{frames_of}
use Rattle.pcap_frames.specs.Left.{left_of}
use Rattle.pcap_lines.specs.Texts.{lines_of}
use Rattle.pcap_lines.proofs.Telling.{SoFar}
use Rattle.pcap_lines.proofs.injections.tell_lines.Given as goal

abbrev pub invariant-loop-f : goal.invariant-loop-f
invariant-loop-f g l = record {
  so_far : SoFar (g.K.Sink.written l.initial.out) l.initial.owed (g.K.Sink.written l.out) l.owed (lines_of (frames_of l.fn.whose l.fn.bytes l.fn.start))
      (lines_of (left_of l.f-iterator));
  still : g.K.Sink.faults l.out ≡ g.K.Sink.faults l.initial.out;
  refused_still : g.K.Sink.refusals l.out ≡ g.K.Sink.refusals l.initial.out;
}
