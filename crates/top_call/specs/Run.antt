-- What a run does.
use Rattle.std.specs.Prelude.{◌≡◌, ◌<◌, ◌≤◌, ◌⊎◌, ◌↔◌, ℕ, List, [], length, Bool, true, false, Option, Some, IfSome, IfOk, IsSome, IsNone}
use Rattle.std.specs.Io.KnownBytes.{prepend_known, append_known, IsAtEnd}
use Rattle.command_words.specs.Words.{command_of}
use Rattle.command_words.specs.declared.commands.Command.{Command}
use Rattle.command_words.specs.declared.commands.Command.TheVariants.{Explain, Trial}
use Rattle.fh_base.specs.Causes.{Counts, Rose}
use Rattle.fh_base.specs.Told.{WritesFront, WritesPart}
use Rattle.document_texts.specs.Explained.{IsExplainedDocument}
use Rattle.document_texts.specs.Text.{HasFewFrames}
use Rattle.fh_document.specs.Document.{document_of}
use Rattle.fh_document.specs.declared.document.Document.{Document}
use Rattle.fronthaul_replay.specs.Laws.{IsSound}
use Rattle.plan_model.specs.Valid.{IsValid}
use Rattle.document_texts.specs.Idle.{IsIdle}
use Rattle.idle_spans.specs.Tables.{AreFrames}
use Rattle.document_texts.specs.SentLaws.{IsListed}
use Rattle.document_texts.specs.Summed.{IsSummed}
use Rattle.document_texts.specs.Units.{unit_of}
use Rattle.top_call.specs.declared.status.Status.{Status}
use Rattle.top_call.specs.declared.status.Status.TheVariants.{Done, BadWords, BadDocument, BadCapture, ReadFault, WriteFault, NoMemory, TooLong, CheckFails, BadPcap, BadText, NoFit}
use Rattle.top_call.specs.Answers.{Answer, asked, is_reading}
use Rattle.top_call.specs.Trials.{IsTrial}
use Rattle.fh_base.specs.declared.source.TheConstants.{INPUT_LIMIT}

-- the statuses that words and input decide; the others have a cause beside them
abbrev pub IsDecided : Status → Type 0
IsDecided ReadFault = ⊥
IsDecided WriteFault = ⊥
IsDecided NoMemory = ⊥
IsDecided TooLong = ⊥
IsDecided status = Unit {0}

-- the statuses of words or an input that are refused: nothing is written
abbrev pub IsRefusal : Status → Type 0
IsRefusal BadWords = Unit {0}
IsRefusal (BadDocument line why) = Unit {0}
IsRefusal (BadCapture place why) = Unit {0}
IsRefusal (BadPcap refusal) = Unit {0}
IsRefusal (BadText line why) = Unit {0}
IsRefusal status = ⊥

-- the statuses that follow a complete text
abbrev pub IsVerdict : Status → Type 0
IsVerdict Done = Unit {0}
IsVerdict (CheckFails failing) = Unit {0}
IsVerdict (NoFit refusal) = Unit {0}
IsVerdict status = ⊥

-- the statuses of a run that was stopped in its text, or before it
abbrev pub IsStopped : Status → Type 0
IsStopped WriteFault = Unit {0}
IsStopped NoMemory = Unit {0}
IsStopped status = ⊥

-- the source failed
abbrev pub has_read_fault : Status → Bool
has_read_fault ReadFault = true
has_read_fault status = false

-- the output failed
abbrev pub has_write_fault : Status → Bool
has_write_fault WriteFault = true
has_write_fault status = false

-- where this status is wanted of a command over a whole input, what it may answer: a sink is needed only by what is not refused
abbrev pub AnswersCommand : Status → Status → Type 0
AnswersCommand wanted WriteFault = IsRefusal wanted → ⊥
AnswersCommand wanted NoMemory = Unit {0}
AnswersCommand wanted BadWords = ⊥
AnswersCommand wanted ReadFault = ⊥
AnswersCommand wanted TooLong = ⊥
AnswersCommand wanted status = wanted ≡ status

-- what a command does over a whole input
pub record Performs (a : Answer) (written_old written_new : Option (List ℕ)) (before now : ℕ) (status : Status) : Type 0 where
  pub front : WritesFront written_old written_new a.text
  pub whole : IsDecided status → written_new ≡ append_known written_old a.text
  pub part : IsStopped status → (a.text ≡ [] → ⊥) → WritesPart written_old written_new a.text
  pub answers : AnswersCommand a.status status
  pub faults : Counts (has_write_fault status) before now

-- where this status is wanted by the words over what was received, what a run may answer
abbrev pub AnswersRun : Status → Status → Type 0
AnswersRun wanted ReadFault = Unit {0}
AnswersRun wanted WriteFault = IsRefusal wanted → ⊥
AnswersRun wanted NoMemory = Unit {0}
AnswersRun wanted TooLong = Unit {0}
AnswersRun wanted status = wanted ≡ status

-- the laws of a document's events hold where its plan is valid and so they are replayed
abbrev pub IsSoundPlan : Document → Type 0
IsSoundPlan d = IsValid d.config d.plan → IsSound d

-- the laws of the lines that explain a document hold where its plan is valid and so it is explained
abbrev pub IsExplainedPlan : Document → Type 0
IsExplainedPlan d = IsValid d.config d.plan → IsExplainedDocument d

-- where `explain` is done over these bytes, fewer than 2 ^ 32 frames arrive in their document
abbrev pub ExplainsFew : Option Command → List ℕ → Status → Type 0
ExplainsFew command bytes status = (faults : Bool) → command ≡ Some (Explain faults) → status ≡ Done → IfOk (document_of bytes) HasFewFrames

-- the laws of the units of a shared cell hold where the plan is valid: no element of any unit radiates twice, and the combined cells are
-- the sums of what the units take in
abbrev pub IsSharedPlan : ℕ → ℕ → Document → Type 0
IsSharedPlan count step d = IsValid d.config d.plan → ((unit : ℕ) → unit < count → IsSound (unit_of d unit step)) × IsSummed d count step

-- the laws of the spans in which its endpoints are idle, and of the plan lines that are proposed, hold where the plan is valid
abbrev pub IsIdlePlan : ℕ → ℕ → ℕ → Document → Type 0
IsIdlePlan first last min d = IsValid d.config d.plan → IsIdle d first last min

-- what a run did, but for its line on standard error
pub record Outcome (words : List (List ℕ)) (left_old left_new : Option (List ℕ)) (source_before source_now : ℕ) (written_old written_new : Option (List ℕ)) (out_before out_now : ℕ) (status : Status) : Type 0 where
  -- the bytes that were received
  pub came : List ℕ
  pub taken : left_old ≡ prepend_known came left_new
  -- whatever the status, a front part was written of the one text of all that was left, which is that of what was received
  pub front : IfSome left_old (λ bytes. WritesFront written_old written_new (asked (command_of words) bytes).text)
  pub front_came : WritesFront written_old written_new (asked (command_of words) came).text
  -- a status that words and input decide: it is the wanted one, all was read that is read, and the one text is complete
  pub answers : AnswersRun (asked (command_of words) came).status status
  pub ended : IsDecided status → is_reading (command_of words) ≡ true → IsAtEnd left_new
  pub whole : IsDecided status → written_new ≡ append_known written_old (asked (command_of words) came).text
  -- the others, and words that are no command: a read fault exactly where the source's count of faults rose, a write fault exactly where the
  -- output's did, and a stopped run leaves a part of its text and not all, where the text is not empty
  pub source : Counts (has_read_fault status) source_before source_now
  pub out : Counts (has_write_fault status) out_before out_now
  pub part : IsStopped status → ((asked (command_of words) came).text ≡ [] → ⊥) → WritesPart written_old written_new (asked (command_of words) came).text
  pub reading : (status ≡ ReadFault) ⊎ (status ≡ TooLong) → is_reading (command_of words) ≡ true
  pub bad_words : (status ≡ BadWords) ↔ IsNone (command_of words)
  pub unread : (status ≡ ReadFault) ⊎ (status ≡ TooLong) → written_new ≡ written_old
  pub too_long : (status ≡ TooLong) ↔ INPUT_LIMIT < length came
  -- an input that can be read whole is answered as wanted, or for want of memory, where no fault rises; a refusal needs no sink, and a
  -- command that reads nothing no source
  pub complete : (bytes : List ℕ) → IsSome (command_of words)
      → (is_reading (command_of words) ≡ true → (Rose source_before source_now → ⊥) × (left_old ≡ Some bytes) × (length bytes ≤ INPUT_LIMIT))
      → (Rose out_before out_now → ⊥) ⊎ IsRefusal (asked (command_of words) bytes).status
      → (status ≡ (asked (command_of words) bytes).status) ⊎ (status ≡ NoMemory)
  -- of the events of the document that the bytes spell, where its plan is valid: no cell is reported twice, what is shown was received and
  -- commanded in time, the counters add up, the frames that arrive are those that are listed, and what is refused changes nothing but
  -- counters; each delay is after the frame that gave it, and is that of the one request of its id where no injected frame has a
  -- message of delay measurement; and where nothing disturbs its schedule, each scheduled element radiates once
  pub sound : IfOk (document_of came) IsSoundPlan
  -- and of the frames that such a document's plan sends: each has its line, once and in the sent order, and their copies are, with the injected
  -- frames and those of delay measurement, what arrives at the radio unit
  pub listed : IfOk (document_of came) IsListed
  -- and of the lines that explain such a document: each judged thing has one, each counter is the number of lines with its word, runs of cells
  -- are maximal, and the text of its faults is of the same lines; each missing cell, silent element and unused block has its reason
  pub explained : IfOk (document_of came) IsExplainedPlan
  -- and where it is explained to its end, fewer than 2 ^ 32 frames arrive: by the laws of `drawn_laws` no picture refuses its text
  pub few : ExplainsFew (command_of words) came status
  -- and of the units of a cell that such a document's frames are shared by
  pub shared : (count step : ℕ) → 1 ≤ count → IfOk (document_of came) (IsSharedPlan count step)
  -- and of the spans in which such a document's endpoints are idle: none holds a radiated element, the plan with the proposed lines after it
  -- is valid, and where nothing disturbs the document with these lines, its cells and blocks are those of the document
  pub idle : (first last min : ℕ) → AreFrames first last → IfOk (document_of came) (IsIdlePlan first last min)
  -- where the words are `trial`: what is replayed is what `generate` writes of the same words, and of it each planned element radiates once
  -- or is taken in once
  pub trial : (seed slots : ℕ) → command_of words ≡ Some (Trial seed slots) → IsTrial seed slots

-- the line was written and no count rose, or a part of it, and exactly one of the two counts rose
abbrev pub TellsLine : Option (List ℕ) → Option (List ℕ) → List ℕ → ℕ → ℕ → ℕ → ℕ → Type 0
TellsLine old new line faults_before faults_now refusals_before refusals_now =
    ((new ≡ append_known old line) × Counts false faults_before faults_now × Counts false refusals_before refusals_now)
    ⊎ (WritesPart old new line × ((Counts true faults_before faults_now × Counts false refusals_before refusals_now)
    ⊎ (Counts false faults_before faults_now × Counts true refusals_before refusals_now)))
