-- What a status ends the process with, and the line that it writes (this project's profile).
use Rattle.std.specs.Prelude.{ℕ, List, [], ◌++◌, codes, decimal}
use Rattle.capture_records.specs.declared.refusals.CaptureWhy.{CaptureWhy}
use Rattle.capture_records.specs.Refusals.{name_of as capture_name}
use Rattle.fh_document.specs.Refusals.{name_of}
use Rattle.pcap_frames.specs.declared.refusals.PcapRefusal.{PcapRefusal}
use Rattle.pcap_frames.specs.Refusals.{name_of as pcap_name}
use Rattle.plan_model.specs.declared.refusals.PlanWhy.{PlanWhy}
use Rattle.plan_model.specs.declared.refusals.PlanWhy.TheVariants.{UnknownEndpoint, Range, Overlap, TooManySections, SequenceDense}
use Rattle.pictures.specs.Refusals.{why_name as text_name}
use Rattle.pictures.specs.declared.faults.TextWhy.{TextWhy}
use Rattle.fh_base.specs.Words.{spaced_signed_text}
use Rattle.window_config.specs.declared.relations.Failing.{Failing}
use Rattle.window_config.specs.Relations.{name_of as relation_name}
use Rattle.window_plan.specs.declared.refusals.NoFit.{NoFit as Refusal}
use Rattle.window_plan.specs.Names.{name_of as window_name}
use Rattle.top_call.specs.declared.status.LineWhy.{LineWhy}
use Rattle.top_call.specs.declared.status.LineWhy.TheVariants.{Doc, Plan}
use Rattle.top_call.specs.declared.status.Status.{Status}
use Rattle.top_call.specs.declared.status.Status.TheVariants.{Done, BadWords, BadDocument, BadCapture, ReadFault, WriteFault, NoMemory, TooLong, CheckFails, BadPcap, BadText, NoFit}

-- the exit status
abbrev pub code_of : Status → ℕ
code_of Done = 0
code_of BadWords = 2
code_of (BadDocument line why) = 3
code_of (BadCapture place why) = 4
code_of ReadFault = 5
code_of WriteFault = 6
code_of NoMemory = 7
code_of TooLong = 8
code_of (CheckFails failing) = 9
code_of (BadPcap refusal) = 10
code_of (NoFit refusal) = 11
code_of (BadText line why) = 12

-- the name of a reason of the plan
abbrev pub plan_name : PlanWhy → List ℕ
plan_name UnknownEndpoint = codes "UnknownEndpoint"
plan_name Range = codes "Range"
plan_name Overlap = codes "Overlap"
plan_name TooManySections = codes "TooManySections"
plan_name SequenceDense = codes "SequenceDense"

-- a reason's name
abbrev pub why_name : LineWhy → List ℕ
why_name (Doc why) = name_of why
why_name (Plan why) = plan_name why

-- the line of a refusal
abbrev pub refusal_line : ℕ → LineWhy → List ℕ
refusal_line line why = codes "fronthaul: line " ++ decimal line ++ codes ": " ++ why_name why ++ codes "\n"

-- the line of a capture that is refused, with the byte where its record begins
abbrev pub capture_line : ℕ → CaptureWhy → List ℕ
capture_line place why = codes "fronthaul: capture at " ++ decimal place ++ codes ": " ++ capture_name why ++ codes "\n"

-- the line of a relation that fails, with its two sides in nanoseconds
unfoldable pub failing_line : Failing → List ℕ
failing_line f = codes "fronthaul: check fails " ++ relation_name f.relation ++ spaced_signed_text f.left ++ spaced_signed_text f.right ++ codes "\n"

-- the line of a window that does not fit, with both sides of what refuses it in nanoseconds
unfoldable pub no_fit_line : Refusal → List ℕ
no_fit_line r = codes "fronthaul: no fit " ++ window_name r.window ++ spaced_signed_text r.left ++ spaced_signed_text r.right ++ codes "\n"

-- the line of a pcap file that is refused, with the byte where its record begins
abbrev pub pcap_line : PcapRefusal → List ℕ
pcap_line r = codes "fronthaul: pcap at " ++ decimal r.place ++ codes ": " ++ pcap_name r.why ++ codes "\n"

-- the line of a text of an explanation that is refused
abbrev pub text_line : ℕ → TextWhy → List ℕ
text_line line why = codes "fronthaul: line " ++ decimal line ++ codes ": " ++ text_name why ++ codes "\n"

-- the line on standard error
abbrev pub status_line : Status → List ℕ
status_line Done = []
status_line BadWords = codes "fronthaul: bad words\n"
status_line (BadDocument line why) = refusal_line line why
status_line (BadCapture place why) = capture_line place why
status_line ReadFault = codes "fronthaul: read fault\n"
status_line WriteFault = codes "fronthaul: write fault\n"
status_line NoMemory = codes "fronthaul: no memory\n"
status_line TooLong = codes "fronthaul: input too long\n"
status_line (CheckFails failing) = failing_line failing
status_line (BadPcap refusal) = pcap_line refusal
status_line (BadText line why) = text_line line why
status_line (NoFit refusal) = no_fit_line refusal
