-- How a run ends, by what its last step answered.
use Rattle.std.specs.Prelude.{Result, Ok, Err, slice_index}
use Rattle.capture_show.specs.declared.showing.ShowFault.{ShowFault}
use Rattle.capture_show.specs.declared.showing.ShowFault.TheVariants as show
use Rattle.fh_base.specs.declared.fault.ReadAllFault.{ReadAllFault}
use Rattle.fh_base.specs.declared.fault.ReadAllFault.TheVariants as source
use Rattle.fh_base.specs.declared.fault.SinkFault.{SinkFault}
use Rattle.fh_base.specs.declared.fault.SinkFault.TheVariants as sink
use Rattle.fh_document.specs.declared.document.Document.{Document}
use Rattle.fh_document.specs.declared.refusals.DocFault.{DocFault}
use Rattle.fh_document.specs.declared.refusals.DocFault.TheVariants as doc
use Rattle.fronthaul_replay.specs.declared.report.TextFault.{TextFault}
use Rattle.fronthaul_replay.specs.declared.report.TextFault.TheVariants as text
use Rattle.du_scheduler.specs.declared.testing.PlanRefusal.{PlanRefusal}
use Rattle.du_scheduler.specs.declared.testing.PlanRefusal.TheVariants as plan
use Rattle.pcap_frames.specs.declared.refusals.PcapFault.{PcapFault}
use Rattle.pcap_frames.specs.declared.refusals.PcapFault.TheVariants as pcap
use Rattle.pictures.specs.declared.faults.DrawFault.{DrawFault}
use Rattle.pictures.specs.declared.faults.DrawFault.TheVariants as draw
use Rattle.document_texts.specs.declared.faults.ShareFault.{ShareFault}
use Rattle.document_texts.specs.declared.faults.ShareFault.TheVariants as share
use Rattle.top_call.specs.declared.status.LineWhy.TheVariants.{Doc, Plan}
use Rattle.top_call.specs.declared.status.Status.{Status}
use Rattle.top_call.specs.declared.status.Status.TheVariants.{Done, BadDocument, BadCapture, ReadFault, WriteFault, NoMemory, TooLong, BadPcap, BadText}

-- the whole text was to be written, and then the run to end with a status
abbrev pub ending_of : Result (Unit {0}) SinkFault → Status → Status
ending_of (Ok _) status = status
ending_of (Err sink.Failed) status = WriteFault
ending_of (Err sink.NoMemory) status = NoMemory

-- what becomes of a document's events was written, or was not
abbrev pub text_status : Result (Unit {0}) TextFault → Status
text_status (Ok _) = Done
text_status (Err text.WriteFault) = WriteFault
text_status (Err text.NoMemory) = NoMemory

-- what the units of a shared cell do was written, or was not
abbrev pub share_status : Result (Unit {0}) ShareFault → Status
share_status (Ok _) = Done
share_status (Err share.WriteFault) = WriteFault
share_status (Err share.NoMemory) = NoMemory

-- a document was not read
abbrev pub unread_status : DocFault → Status
unread_status (doc.At line why) = BadDocument line (Doc why)
unread_status doc.NoMemory = NoMemory

-- the plan of a document was not accepted: its place in the plan is told as the document's line
abbrev pub unplanned_status : Document → PlanRefusal → Status
unplanned_status d (plan.At index why) = BadDocument (slice_index d.plan_lines index) (Plan why)
unplanned_status d plan.NoMemory = NoMemory

-- an input was not read to its end
abbrev pub source_status : ReadAllFault → Status
source_status source.ReadFault = ReadFault
source_status source.TooLong = TooLong
source_status source.NoMemory = NoMemory

-- a picture was drawn, or was not
abbrev pub drawn_status : Result (Unit {0}) DrawFault → Status
drawn_status (Ok _) = Done
drawn_status (Err (draw.Refused line why)) = BadText line why
drawn_status (Err draw.WriteFault) = WriteFault
drawn_status (Err draw.NoMemory) = NoMemory

-- a pcap file was not accepted
abbrev pub pcap_status : PcapFault → Status
pcap_status (pcap.Refused refusal) = BadPcap refusal
pcap_status pcap.NoMemory = NoMemory

-- a capture was shown, or was not
abbrev pub shown_status : Result (Unit {0}) ShowFault → Status
shown_status (Ok _) = Done
shown_status (Err (show.BadCapture place why)) = BadCapture place why
shown_status (Err show.WriteFault) = WriteFault
shown_status (Err show.NoMemory) = NoMemory
