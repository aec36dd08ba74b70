use Rattle.std.proofs.Common.{◌≡◌, ◌+◌, ◌≤◌, length}
use Rattle.capture_records.specs.Left.{left_of}
use Rattle.capture_records.specs.Reading.{records_of}
use Rattle.pcap_export.specs.Checked.{placed_from}
use Rattle.pcap_export.proofs.Sizes.{sizes}
use Rattle.pcap_export.proofs.checking.check_frames.Given as goal

abbrev pub invariant-loop-record : goal.invariant-loop-record
invariant-loop-record l = record {
  so_far : placed_from l.ways 8 (records_of l.bytes) ≡ placed_from l.ways l.place (left_of l.record-iterator);
  room : l.place + sizes (left_of l.record-iterator) ≤ 8 + length l.bytes;
}
