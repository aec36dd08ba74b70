use Rattle.std.proofs.Common.{map, ◌≡◌}
use Rattle.capture_records.specs.Records.{records_bytes}
use Rattle.pcap_frames.specs.Frames.{frames_of, AreShown}
use Rattle.pcap_frames.specs.Left.{left_of}
use Rattle.pcap_lines.specs.Texts.{arrived_as}
use Rattle.pcap_lines.proofs.Telling.{SoFar}
use Rattle.pcap_lines.proofs.captures.tell_records.Given as goal

abbrev pub invariant-loop-f : goal.invariant-loop-f
invariant-loop-f g l = record {
  so_far : SoFar (g.K.Sink.written l.initial.out) l.initial.owed (g.K.Sink.written l.out) l.owed (records_bytes (map arrived_as (frames_of l.fn.whose l.fn.bytes l.fn.start)))
      (records_bytes (map arrived_as (left_of l.f-iterator)));
  shown : AreShown (left_of l.f-iterator);
  still : g.K.Sink.faults l.out ≡ g.K.Sink.faults l.initial.out;
  refused_still : g.K.Sink.refusals l.out ≡ g.K.Sink.refusals l.initial.out;
}
