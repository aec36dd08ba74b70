-- What words and a whole capture name: the one text, and the status of a run that nothing keeps from its end.
use Rattle.std.specs.Prelude.{ℕ, List, [], Option, None, Some, Result, Ok, Err}
use Rattle.capture_records.specs.Reading.{records_of}
use Rattle.fh_base.specs.declared.fault.ReadAllFault.{ReadAllFault}
use Rattle.fh_base.specs.declared.fault.ReadAllFault.TheVariants as source
use Rattle.fh_base.specs.declared.fault.SinkFault.{SinkFault}
use Rattle.fh_base.specs.declared.fault.SinkFault.TheVariants as sink
use Rattle.pcap_export.specs.declared.refusals.ExportRefusal.{ExportRefusal}
use Rattle.pcap_export.specs.declared.status.Status.{Status}
use Rattle.pcap_export.specs.declared.status.Status.TheVariants.{Done, BadWords, BadCapture, ReadFault, WriteFault, NoMemory, TooLong}
use Rattle.pcap_export.specs.declared.ways.Ways.{Ways}
use Rattle.pcap_export.specs.Checked.{checked}
use Rattle.pcap_export.specs.Packets.{pcap_bytes}

-- a complete text, and the status after it
pub record Answer : Type 0 where
  pub text : List ℕ
  pub status : Status

-- a refusal has no text
abbrev pub refused : Status → Answer
refused status = record { text = []; status = status }

-- the file of a capture that passed, or its refusal
abbrev pub of_capture : List ℕ → Result (Unit {0}) ExportRefusal → Answer
of_capture text (Ok _) = record { text = text; status = Done }
of_capture text (Err r) = refused (BadCapture r)

abbrev pub exported : Ways → List ℕ → Answer
exported ways bytes = of_capture (pcap_bytes ways (records_of bytes)) (checked ways bytes)

-- what is answered where the words are these ways; words that are none are refused
abbrev pub asked : Option Ways → List ℕ → Answer
asked None bytes = refused BadWords
asked (Some ways) bytes = exported ways bytes

-- the whole file was to be written
abbrev pub ending_of : Result (Unit {0}) SinkFault → Status
ending_of (Ok _) = Done
ending_of (Err sink.Failed) = WriteFault
ending_of (Err sink.NoMemory) = NoMemory

-- a capture was not read to its end
abbrev pub source_status : ReadAllFault → Status
source_status source.ReadFault = ReadFault
source_status source.TooLong = TooLong
source_status source.NoMemory = NoMemory
