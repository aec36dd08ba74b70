-- What follows from the outcome of a run, status by status.
use Rattle.std.proofs.Common.{◌≡◌, ◌⊎◌, ◌∙◌, inr, ℕ, ◌≤◌, List, [], length, true, Option, Some, None, Result, Ok, Err, IsSome, map, refl, sym, ap, subst}
use Rattle.std.specs.Io.KnownBytes.{append_known, IsAtEnd}
use Rattle.capture_records.specs.declared.refusals.CaptureRefusal.{CaptureRefusal}
use Rattle.capture_records.specs.Reading.{checked as capture_checked}
use Rattle.capture_records.specs.Records.{capture_bytes}
use Rattle.capture_show.specs.Messages.{capture_lines}
use Rattle.capture_show.specs.Texts.{lines_text}
use Rattle.command_words.specs.Words.{command_of}
use Rattle.command_words.specs.declared.commands.Command.{Command}
use Rattle.command_words.specs.declared.commands.Command.TheVariants.{Replay, Summary, Capture, Show, Explain, Sent, Windows, Fit, Generate, Trial, Shared, Idle, DrawGrid, DrawWindows, Pcap, PcapCapture}
use Rattle.fh_base.specs.Causes.{Rose}
use Rattle.fh_base.specs.KnownLaws.{append_nothing}
use Rattle.fh_document.specs.declared.document.Document.{Document}
use Rattle.fh_document.specs.declared.refusals.DocWhy.{DocWhy}
use Rattle.fh_document.specs.Document.{document_of}
use Rattle.pcap_frames.specs.declared.refusals.PcapRefusal.{PcapRefusal}
use Rattle.pcap_frames.specs.Checked.{checked as pcap_checked}
use Rattle.pcap_frames.specs.Frames.{frames_of}
use Rattle.pictures.specs.Picture.{drawn as grid_of, span_of}
use Rattle.pictures.specs.WindowPicture.{drawn as windows_of}
use Rattle.pictures.specs.declared.faults.TextWhy.{TextWhy}
use Rattle.pcap_lines.specs.Texts.{arrived_as, lines_of}
use Rattle.plan_model.specs.Valid.{plan_refusal}
use Rattle.plan_model.specs.declared.refusals.PlanWhy.{PlanWhy}
use Rattle.window_config.specs.declared.delays.Delays.{Delays}
use Rattle.window_config.specs.declared.relations.Failing.{Failing}
use Rattle.window_config.specs.Relations.{checked}
use Rattle.window_plan.specs.declared.refusals.NoFit.{NoFit as Refusal}
use Rattle.window_plan.specs.Fitting.{fitted}
use Rattle.top_call.specs.declared.status.LineWhy.{LineWhy}
use Rattle.top_call.specs.declared.status.Status.{Status}
use Rattle.top_call.specs.declared.status.Status.TheVariants.{Done, BadWords, BadDocument, BadCapture, ReadFault, WriteFault, NoMemory, TooLong, CheckFails, BadPcap, BadText, NoFit}
use Rattle.top_call.specs.Answers.{Answer, answer_of, asked, captured, explained, fit_shown, fit_verdict, idled, is_reading, listed, of_capture, of_document, of_pcap, of_picture, of_plan, of_planned, replayed, shared, summarized, verdict_of, windows_shown}
use Rattle.top_call.specs.Run.{AnswersRun, IsDecided, IsRefusal, Outcome}
use Rattle.fh_base.specs.declared.source.TheConstants.{INPUT_LIMIT}

-- ---- a refusal

check_refuses_nothing : (checked : Result (Unit {0}) Failing) → IsRefusal (verdict_of checked) → ⊥
check_refuses_nothing (Ok u) refusal = refusal
check_refuses_nothing (Err failing) refusal = refusal

fit_refuses_nothing : (fitted : Result Delays Refusal) → IsRefusal (fit_verdict fitted) → ⊥
fit_refuses_nothing (Ok d) refusal = refusal
fit_refuses_nothing (Err r) refusal = refusal

document_text : (answer : Document → Answer) (read : Result Document (ℕ × DocWhy)) → ((d : Document) → IsRefusal (answer d).status → (answer d).text ≡ []) → IsRefusal (of_document answer read).status → (of_document answer read).text ≡ []
document_text answer (Ok d) quiet refusal = quiet d refusal
document_text answer (Err (line, why)) quiet refusal = refl

plan_text : (answer : Document → Answer) (d : Document) (tested : Option (ℕ × PlanWhy)) → (IsRefusal (answer d).status → ⊥) → IsRefusal (of_plan answer d tested).status → (of_plan answer d tested).text ≡ []
plan_text answer d None never refusal = absurd (never refusal)
plan_text answer d (Some (index, why)) never refusal = refl

planned_text : (answer : Document → Answer) (d : Document) → (IsRefusal (answer d).status → ⊥) → IsRefusal (of_planned answer d).status → (of_planned answer d).text ≡ []
unfolding of_planned
planned_text answer d never refusal = plan_text answer d (plan_refusal d.config d.plan) never refusal

capture_text : (text : List ℕ) (checked : Result (Unit {0}) CaptureRefusal) → IsRefusal (of_capture text checked).status → (of_capture text checked).text ≡ []
capture_text text (Ok u) refusal = absurd refusal
capture_text text (Err r) refusal = refl

pcap_text : (text : List ℕ) (checked : Result (Unit {0}) PcapRefusal) → IsRefusal (of_pcap text checked).status → (of_pcap text checked).text ≡ []
pcap_text text (Ok u) refusal = absurd refusal
pcap_text text (Err r) refusal = refl

picture_text : (wanted : Result (List ℕ) (ℕ × TextWhy)) → IsRefusal (of_picture wanted).status → (of_picture wanted).text ≡ []
picture_text (Ok picture) refusal = absurd refusal
picture_text (Err (line, why)) refusal = refl

-- has no text
refusal_text : (o : Option Command) (bytes : List ℕ) → IsRefusal (asked o bytes).status → (asked o bytes).text ≡ []
unfolding answer_of
refusal_text None bytes refusal = refl
refusal_text (Some Replay) bytes refusal = document_text (of_planned replayed) (document_of bytes) (λ d. planned_text replayed d (λ r. r)) refusal
refusal_text (Some Summary) bytes refusal = document_text (of_planned summarized) (document_of bytes) (λ d. planned_text summarized d (λ r. r)) refusal
refusal_text (Some Capture) bytes refusal = document_text (of_planned captured) (document_of bytes) (λ d. planned_text captured d (λ r. r)) refusal
refusal_text (Some (Show json)) bytes refusal = capture_text (lines_text json (capture_lines bytes)) (capture_checked bytes) refusal
refusal_text (Some (Explain faults)) bytes refusal = document_text (of_planned (explained faults)) (document_of bytes) (λ d. planned_text (explained faults) d (λ r. r)) refusal
refusal_text (Some Sent) bytes refusal = document_text (of_planned listed) (document_of bytes) (λ d. planned_text listed d (λ r. r)) refusal
refusal_text (Some Windows) bytes refusal = document_text (λ d. windows_shown d.config) (document_of bytes) (λ d r. absurd (check_refuses_nothing (checked d.config.delays) r)) refusal
refusal_text (Some Fit) bytes refusal = document_text (λ d. fit_shown d.config.delays) (document_of bytes) (λ d r. absurd (fit_refuses_nothing (fitted d.config.delays) r)) refusal
refusal_text (Some (Generate seed slots)) bytes refusal = absurd refusal
refusal_text (Some (Trial seed slots)) bytes refusal = absurd refusal
refusal_text (Some (Shared count step)) bytes refusal = document_text (of_planned (shared count step)) (document_of bytes) (λ d. planned_text (shared count step) d (λ r. r)) refusal
refusal_text (Some (Idle first last min)) bytes refusal =
    document_text (of_planned (idled first last min)) (document_of bytes) (λ d. planned_text (idled first last min) d (λ r. r)) refusal
refusal_text (Some (DrawGrid frame subframe count)) bytes refusal = picture_text (grid_of (span_of frame subframe count) bytes) refusal
refusal_text (Some DrawWindows) bytes refusal = picture_text (windows_of bytes) refusal
refusal_text (Some (Pcap whose start)) bytes refusal = pcap_text (lines_of (frames_of whose bytes start)) (pcap_checked whose bytes start) refusal
refusal_text (Some (PcapCapture whose start)) bytes refusal = pcap_text (capture_bytes (map arrived_as (frames_of whose bytes start))) (pcap_checked whose bytes start) refusal

refusal_decided : (status : Status) → IsRefusal status → IsDecided status
refusal_decided Done refusal = tt
refusal_decided BadWords refusal = tt
refusal_decided (BadDocument line why) refusal = tt
refusal_decided (BadCapture place why) refusal = tt
refusal_decided (BadPcap r) refusal = tt
refusal_decided (BadText line why) refusal = tt
refusal_decided ReadFault refusal = refusal
refusal_decided WriteFault refusal = refusal
refusal_decided NoMemory refusal = refusal
refusal_decided TooLong refusal = refusal
refusal_decided (CheckFails failing) refusal = tt
refusal_decided (NoFit r) refusal = tt

-- a status that words and input decide is the wanted one
pub decided_wanted : (wanted : Status) (status : Status) → IsDecided status → AnswersRun wanted status → wanted ≡ status
decided_wanted wanted Done decided answers = answers
decided_wanted wanted BadWords decided answers = answers
decided_wanted wanted (BadDocument line why) decided answers = answers
decided_wanted wanted (BadCapture place why) decided answers = answers
decided_wanted wanted (BadPcap r) decided answers = answers
decided_wanted wanted (BadText line why) decided answers = answers
decided_wanted wanted ReadFault decided answers = absurd decided
decided_wanted wanted WriteFault decided answers = absurd decided
decided_wanted wanted NoMemory decided answers = absurd decided
decided_wanted wanted TooLong decided answers = absurd decided
decided_wanted wanted (CheckFails failing) decided answers = answers
decided_wanted wanted (NoFit r) decided answers = answers

-- nothing is written at a refusal
pub quiet : (words : List (List ℕ)) (left_old left_new : Option (List ℕ)) (s t : ℕ) (old new : Option (List ℕ)) (before now : ℕ) (status : Status)
    → Outcome words left_old left_new s t old new before now status → IsRefusal status → new ≡ old
quiet words left_old left_new s t old new before now status o refusal =
    let decided = refusal_decided status refusal in
    let wanted = decided_wanted (asked (command_of words) o.came).status status decided o.answers in
    o.whole decided ∙ ap (append_known old) (refusal_text (command_of words) o.came (subst IsRefusal (sym wanted) refusal)) ∙ append_nothing old

-- ---- a document that is refused

only_readers_refuse : (o : Option Command) (bytes : List ℕ) (line : ℕ) (why : LineWhy) → (asked o bytes).status ≡ BadDocument line why → is_reading o ≡ true
unfolding answer_of
only_readers_refuse None bytes line why e = cc
only_readers_refuse (Some Replay) bytes line why e = refl
only_readers_refuse (Some Summary) bytes line why e = refl
only_readers_refuse (Some Capture) bytes line why e = refl
only_readers_refuse (Some (Show json)) bytes line why e = refl
only_readers_refuse (Some (Explain faults)) bytes line why e = refl
only_readers_refuse (Some Sent) bytes line why e = refl
only_readers_refuse (Some Windows) bytes line why e = refl
only_readers_refuse (Some Fit) bytes line why e = refl
only_readers_refuse (Some (Generate seed slots)) bytes line why e = cc
only_readers_refuse (Some (Trial seed slots)) bytes line why e = cc
only_readers_refuse (Some (Shared count step)) bytes line why e = refl
only_readers_refuse (Some (Idle first last min)) bytes line why e = refl
only_readers_refuse (Some (DrawGrid frame subframe count)) bytes line why e = refl
only_readers_refuse (Some DrawWindows) bytes line why e = refl
only_readers_refuse (Some (Pcap side start)) bytes line why e = refl
only_readers_refuse (Some (PcapCapture side start)) bytes line why e = refl

-- one that can be read whole is answered so, or for want of memory, whatever the sink does
pub refused : (words : List (List ℕ)) (bytes : List ℕ) (left_old left_new : Option (List ℕ)) (s t : ℕ) (old new : Option (List ℕ)) (before now : ℕ) (status : Status) (line : ℕ) (why : LineWhy)
    → Outcome words left_old left_new s t old new before now status → IsSome (command_of words) → (Rose s t → ⊥) → left_old ≡ Some bytes → length bytes ≤ INPUT_LIMIT
    → (asked (command_of words) bytes).status ≡ BadDocument line why → (status ≡ BadDocument line why) ⊎ (status ≡ NoMemory)
refused words bytes left_old left_new s t old new before now status line why o some calm left short wanted =
    subst (λ (w : Status). (status ≡ w) ⊎ (status ≡ NoMemory)) wanted (o.complete bytes some (λ _. (calm, left, short)) (inr (subst IsRefusal (sym wanted) tt)))

-- ---- done

-- all was read that is read, and exactly the one text was appended
pub done : (words : List (List ℕ)) (left_old left_new : Option (List ℕ)) (s t : ℕ) (old new : Option (List ℕ)) (before now : ℕ)
    → (o : Outcome words left_old left_new s t old new before now Done)
    → (is_reading (command_of words) ≡ true → IsAtEnd left_new) × (new ≡ append_known old (asked (command_of words) o.came).text) × ((asked (command_of words) o.came).status ≡ Done)
done words left_old left_new s t old new before now o = (o.ended tt, o.whole tt, o.answers)
