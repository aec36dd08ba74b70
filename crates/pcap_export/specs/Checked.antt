-- Which captures can be written (this project's profile).
use Rattle.std.specs.Prelude.{ℕ, ◌+◌, nat_lt, if◌then◌else◌, List, [], ◌∷◌, length, Option, Some, None, Result, Ok, Err}
use Rattle.capture_records.specs.declared.refusals.CaptureRefusal.{CaptureRefusal}
use Rattle.capture_records.specs.Reading.{checked as capture_checked, records_of}
use Rattle.capture_records.specs.Records.{Arrived}
use Rattle.pcap_export.specs.declared.refusals.ExportRefusal.{ExportRefusal}
use Rattle.pcap_export.specs.declared.refusals.ExportWhy.{ExportWhy}
use Rattle.pcap_export.specs.declared.refusals.ExportWhy.TheVariants.{Capture, BeforeZero, LongFrame}
use Rattle.pcap_export.specs.declared.ways.Ways.{Ways}
use Rattle.pcap_export.specs.Packets.{nanoseconds_of}
use Rattle.pcap_export.specs.Ways.{is_wanted}

-- the fault of a frame that is to be written, with its time where a record has a place for that
abbrev pub fault_at : Option ℕ → ℕ → Option ExportWhy
fault_at None len = Some BeforeZero
fault_at (Some ns) len = if nat_lt 262130 len then Some LongFrame else None

-- the fault of an arrival; one that is not written has none
abbrev pub fault_of : Ways → Arrived → Option ExportWhy
fault_of ways a = if is_wanted ways a.side then fault_at (nanoseconds_of a.at.0) (length a.frame) else None

-- the refusal of a record at a place, or what is found after it
abbrev pub passed_by : Option ExportWhy → ℕ → Result (Unit {0}) ExportRefusal → Result (Unit {0}) ExportRefusal
passed_by None place behind = behind
passed_by (Some why) place behind = Err (record { place = place; why = why })

-- the first refusal of the records from a place on
unfoldable pub placed_from : Ways → ℕ → List Arrived → Result (Unit {0}) ExportRefusal
placed_from ways place [] = Ok tt
placed_from ways place (a ∷ rest) = passed_by (fault_of ways a) place (placed_from ways (place + (13 + length a.frame)) rest)

-- the tests of a capture: whether it is malformed, and then its frames
abbrev pub checked_behind : Ways → List ℕ → Result (Unit {0}) CaptureRefusal → Result (Unit {0}) ExportRefusal
checked_behind ways bytes (Ok _) = placed_from ways 8 (records_of bytes)
checked_behind ways bytes (Err r) = Err (record { place = r.place; why = Capture r.why })

abbrev pub checked : Ways → List ℕ → Result (Unit {0}) ExportRefusal
checked ways bytes = checked_behind ways bytes (capture_checked bytes)
