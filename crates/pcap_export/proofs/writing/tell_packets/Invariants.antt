use Rattle.std.proofs.Common.{◌≡◌}
use Rattle.capture_records.specs.Left.{left_of}
use Rattle.capture_records.specs.Reading.{records_of}
use Rattle.pcap_lines.proofs.Telling.{SoFar}
use Rattle.pcap_export.specs.Packets.{packets_bytes}
use Rattle.pcap_export.proofs.Placed.{ArePlaced}
use Rattle.pcap_export.proofs.writing.tell_packets.Given as goal

abbrev pub invariant-loop-record : goal.invariant-loop-record
invariant-loop-record g l = record {
  so_far : SoFar (g.K.Sink.written l.initial.out) l.initial.owed (g.K.Sink.written l.out) l.owed (packets_bytes l.ways (records_of l.fn.bytes)) (packets_bytes l.ways (left_of l.record-iterator));
  placed : ArePlaced l.ways (left_of l.record-iterator);
  still : g.K.Sink.faults l.out ≡ g.K.Sink.faults l.initial.out;
  refused_still : g.K.Sink.refusals l.out ≡ g.K.Sink.refusals l.initial.out;
}
