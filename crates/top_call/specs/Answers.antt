-- What the words and the input name: the one text, and the status of a run that nothing keeps from its end.
use Rattle.std.specs.Prelude.{ℕ, List, [], map, Bool, true, false, Option, None, Some, Result, Ok, Err, slice_index}
use Rattle.capture_records.specs.declared.refusals.CaptureRefusal.{CaptureRefusal}
use Rattle.capture_records.specs.Reading.{checked as capture_checked}
use Rattle.capture_records.specs.Records.{capture_bytes}
use Rattle.capture_show.specs.Messages.{capture_lines}
use Rattle.capture_show.specs.Texts.{lines_text}
use Rattle.command_words.specs.declared.commands.Command.{Command}
use Rattle.command_words.specs.declared.commands.Command.TheVariants.{Replay, Summary, Capture, Show, Explain, Sent, Windows, Fit, Generate, Trial, Shared, Idle, DrawGrid, DrawWindows, Pcap, PcapCapture}
use Rattle.fh_document.specs.declared.document.Document.{Document}
use Rattle.fh_document.specs.declared.refusals.DocWhy.{DocWhy}
use Rattle.fh_document.specs.Document.{document_of}
use Rattle.fh_document.specs.Generated.{generated}
use Rattle.generated_laws.specs.Documents.{document}
use Rattle.fronthaul_replay.specs.Reports.{capture_of, document_counts, document_report, summary_of}
use Rattle.pcap_frames.specs.declared.refusals.PcapRefusal.{PcapRefusal}
use Rattle.pcap_frames.specs.declared.values.Whose.{Whose}
use Rattle.pcap_frames.specs.Checked.{checked as pcap_checked}
use Rattle.pcap_frames.specs.Frames.{frames_of}
use Rattle.pictures.specs.Picture.{drawn as grid_of, span_of}
use Rattle.pictures.specs.WindowPicture.{drawn as windows_of}
use Rattle.pictures.specs.declared.faults.TextWhy.{TextWhy}
use Rattle.pcap_lines.specs.Texts.{arrived_as, lines_of}
use Rattle.plan_model.specs.Valid.{plan_refusal}
use Rattle.plan_model.specs.declared.refusals.PlanWhy.{PlanWhy}
use Rattle.window_config.specs.declared.config.Config.{Config}
use Rattle.window_config.specs.declared.delays.Delays.{Delays}
use Rattle.window_config.specs.declared.relations.Failing.{Failing}
use Rattle.window_config.specs.Relations.{checked}
use Rattle.window_plan.specs.Fit.{fit_text}
use Rattle.window_plan.specs.Windows.{windows_text}
use Rattle.window_plan.specs.declared.refusals.NoFit.{NoFit as Refusal}
use Rattle.window_plan.specs.Fitting.{fitted}
use Rattle.document_texts.specs.SentText.{sent_text}
use Rattle.document_texts.specs.Text.{explanation}
use Rattle.document_texts.specs.Shared.{shared_text}
use Rattle.document_texts.specs.Idle.{document_idle}
use Rattle.top_call.specs.declared.status.LineWhy.TheVariants.{Doc, Plan}
use Rattle.top_call.specs.declared.status.Status.{Status}
use Rattle.top_call.specs.declared.status.Status.TheVariants.{Done, BadWords, BadDocument, BadCapture, CheckFails, BadPcap, BadText, NoFit}

-- a complete text, and the status after it
pub record Answer : Type 0 where
  pub text : List ℕ
  pub status : Status

-- a refusal has no text
abbrev pub refused : Status → Answer
refused status = record { text = []; status = status }

-- ---- the commands that read a document

-- what is answered of the document that was read, or the line and the reason at which the grammar refuses it
abbrev pub of_document : (Document → Answer) → Result Document (ℕ × DocWhy) → Answer
of_document answer (Ok d) = answer d
of_document answer (Err (line, why)) = refused (BadDocument line (Doc why))

-- what is answered of a document whose plan is valid, or the document's line that is refused of its plan, and the reason
abbrev pub of_plan : (Document → Answer) → Document → Option (ℕ × PlanWhy) → Answer
of_plan answer d None = answer d
of_plan answer d (Some (index, why)) = refused (BadDocument (slice_index d.plan_lines index) (Plan why))

-- a document that is replayed is refused where its plan is: the plan is tested after the complete grammar
unfoldable pub of_planned : (Document → Answer) → Document → Answer
of_planned answer d = of_plan answer d (plan_refusal d.config d.plan)

-- `replay`: the report of the document's events
abbrev pub replayed : Document → Answer
replayed d = record { text = document_report d; status = Done }

-- `summary`: the summary of the same events
abbrev pub summarized : Document → Answer
summarized d = record { text = summary_of d; status = Done }

-- `capture`: the frames among them, as records
abbrev pub captured : Document → Answer
captured d = record { text = capture_of d; status = Done }

-- `explain`: what became of its frames and sections, and why cells are silent; all of it, or its faults alone
abbrev pub explained : Bool → Document → Answer
explained faults d = record { text = explanation faults d; status = Done }

-- `sent`: the frames that its plan sends to the radio unit
abbrev pub listed : Document → Answer
listed d = record { text = sent_text d; status = Done }

-- `shared`: what the units of a shared cell do with the document
abbrev pub shared : ℕ → ℕ → Document → Answer
shared count step d = record { text = shared_text d count step; status = Done }

-- `idle`: when the document's endpoints are idle in some frames, in spans of at least so many symbols
abbrev pub idled : ℕ → ℕ → ℕ → Document → Answer
idled first last min d = record { text = document_idle d first last min; status = Done }

-- the verdict of the check: the first relation that fails
abbrev pub verdict_of : Result (Unit {0}) Failing → Status
verdict_of (Ok _) = Done
verdict_of (Err failing) = CheckFails failing

abbrev pub checked_status : Delays → Status
checked_status delays = verdict_of (checked delays)

-- `windows`: the windows, the rings and the check
abbrev pub windows_shown : Config → Answer
windows_shown config = record { text = windows_text config; status = checked_status config.delays }

-- the verdict of a fit: the first window that does not fit
abbrev pub fit_verdict : Result Delays Refusal → Status
fit_verdict (Ok _) = Done
fit_verdict (Err refusal) = NoFit refusal

abbrev pub fitted_status : Delays → Status
fitted_status delays = fit_verdict (fitted delays)

-- `fit`: the breaches, and the fitted windows where there are any
abbrev pub fit_shown : Delays → Answer
fit_shown delays = record { text = fit_text delays; status = fitted_status delays }

-- ---- the command that reads a capture

-- the text of a capture whose records are sound, or its first that is malformed
abbrev pub of_capture : List ℕ → Result (Unit {0}) CaptureRefusal → Answer
of_capture text (Ok _) = record { text = text; status = Done }
of_capture text (Err r) = refused (BadCapture r.place r.why)

-- `show`: the fields of its frames, as lines or as JSON
abbrev pub shown : Bool → List ℕ → Answer
shown json bytes = of_capture (lines_text json (capture_lines bytes)) (capture_checked bytes)

-- ---- the commands that read the text of an explanation

-- the picture of a text, or its first line that is refused
abbrev pub of_picture : Result (List ℕ) (ℕ × TextWhy) → Answer
of_picture (Ok picture) = record { text = picture; status = Done }
of_picture (Err (line, why)) = refused (BadText line why)

-- `draw grid`: the grid of some subframes from one on
abbrev pub grid_drawn : ℕ → ℕ → ℕ → List ℕ → Answer
grid_drawn frame subframe count bytes = of_picture (grid_of (span_of frame subframe count) bytes)

-- `draw windows`: the windows, and what arrived in them
abbrev pub windows_drawn : List ℕ → Answer
windows_drawn bytes = of_picture (windows_of bytes)

-- ---- the commands that read a pcap file

-- what is written of the frames of a file that passed, or the first fault of the file
abbrev pub of_pcap : List ℕ → Result (Unit {0}) PcapRefusal → Answer
of_pcap text (Ok _) = record { text = text; status = Done }
of_pcap text (Err refusal) = refused (BadPcap refusal)

-- `pcap`: the frames that are wanted as lines of a document
abbrev pub frames_injected : Whose → ℕ → List ℕ → Answer
frames_injected whose start bytes = of_pcap (lines_of (frames_of whose bytes start)) (pcap_checked whose bytes start)

-- `pcap-capture`: these frames as a capture
abbrev pub frames_captured : Whose → ℕ → List ℕ → Answer
frames_captured whose start bytes = of_pcap (capture_bytes (map arrived_as (frames_of whose bytes start))) (pcap_checked whose bytes start)

-- ---- the commands that read nothing

-- `generate`: a document of its own
abbrev pub generated_document : ℕ → ℕ → Answer
generated_document seed slots = record { text = generated seed slots; status = Done }

-- the count lines of a document's report
abbrev pub counted : Document → Answer
counted d = record { text = document_counts d; status = Done }

-- `trial`: those of the document that `generate` writes, which is read as this one (`TrialsAreGenerated`)
abbrev pub tried : ℕ → ℕ → Answer
tried seed slots = counted (document seed slots)

-- ---- all commands

-- whether a command reads its input
abbrev pub reads : Command → Bool
reads Replay = true
reads Summary = true
reads Capture = true
reads (Show json) = true
reads (Explain faults) = true
reads Sent = true
reads Windows = true
reads Fit = true
reads (Generate seed slots) = false
reads (Trial seed slots) = false
reads (Shared count step) = true
reads (Idle first last min) = true
reads (DrawGrid frame subframe count) = true
reads DrawWindows = true
reads (Pcap whose start) = true
reads (PcapCapture whose start) = true

-- what a command answers of a whole input
unfoldable pub answer_of : Command → List ℕ → Answer
answer_of Replay bytes = of_document (of_planned replayed) (document_of bytes)
answer_of Summary bytes = of_document (of_planned summarized) (document_of bytes)
answer_of Capture bytes = of_document (of_planned captured) (document_of bytes)
answer_of (Show json) bytes = shown json bytes
answer_of (Explain faults) bytes = of_document (of_planned (explained faults)) (document_of bytes)
answer_of Sent bytes = of_document (of_planned listed) (document_of bytes)
answer_of Windows bytes = of_document (λ d. windows_shown d.config) (document_of bytes)
answer_of Fit bytes = of_document (λ d. fit_shown d.config.delays) (document_of bytes)
answer_of (Generate seed slots) bytes = generated_document seed slots
answer_of (Trial seed slots) bytes = tried seed slots
answer_of (Shared count step) bytes = of_document (of_planned (shared count step)) (document_of bytes)
answer_of (Idle first last min) bytes = of_document (of_planned (idled first last min)) (document_of bytes)
answer_of (DrawGrid frame subframe count) bytes = grid_drawn frame subframe count bytes
answer_of DrawWindows bytes = windows_drawn bytes
answer_of (Pcap whose start) bytes = frames_injected whose start bytes
answer_of (PcapCapture whose start) bytes = frames_captured whose start bytes

-- what is answered where the words are this command; words that are none are refused
abbrev pub asked : Option Command → List ℕ → Answer
asked None bytes = refused BadWords
asked (Some command) bytes = answer_of command bytes

-- whether the words are a command that reads
abbrev pub is_reading : Option Command → Bool
is_reading None = false
is_reading (Some command) = reads command
