-- The eCPRI frames of a pcap file as lines of a document, and as arrivals of a capture (this project's profile).
use Rattle.std.specs.Prelude.{ℕ, ℤ, pos, ◌*ℤ◌, List, ◌++◌, codes}
use Rattle.std.specs.List.{flat_map}
use Rattle.std.specs.Fmt.{signed_decimal}
use Rattle.air_source.specs.declared.events.Side.{Side}
use Rattle.fh_document.specs.declared.document.Injection.{Injection}
use Rattle.fh_document.specs.LineWords.{frame_word}
use Rattle.capture_records.specs.Records.{Arrived}
use Rattle.pcap_frames.specs.Frames.{Timed}
use Rattle.air_source.specs.Units.{way_text}
use Rattle.fh_base.specs.declared.nanoseconds.TheConstants.{NANOSECOND}

-- what is before a frame's word
abbrev pub opening_text : Side → ℤ → List ℕ
opening_text side at = codes "inject " ++ way_text side ++ codes " " ++ signed_decimal at ++ codes " "

-- the line of a frame
abbrev pub line_text : Timed → List ℕ
line_text t = opening_text t.side t.at ++ (frame_word t.frame ++ codes "\n")

-- the lines of frames, in their order
abbrev pub lines_of : List Timed → List ℕ
lines_of ts = flat_map line_text ts

-- the frame as a document says it
abbrev pub injection_of : Timed → Injection
injection_of t = record { side = t.side; at = t.at; frame = t.frame }

-- the frame as an arrival at a unit: 1,536 ticks to the nanosecond
abbrev pub arrived_as : Timed → Arrived
arrived_as t = record { side = t.side; at = record { 0 = t.at *ℤ pos NANOSECOND }; frame = t.frame }
