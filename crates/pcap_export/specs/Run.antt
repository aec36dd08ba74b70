-- What a run does.
use Rattle.std.specs.Prelude.{◌≡◌, ◌<◌, ◌≤◌, ◌⊎◌, ◌↔◌, ℕ, Bool, true, false, List, length, Option, Some, IsSome, IsNone}
use Rattle.std.specs.Io.KnownBytes.{prepend_known, append_known, IsAtEnd}
use Rattle.fh_base.specs.Causes.{Rose, Counts}
use Rattle.fh_base.specs.Told.{WritesFront, WritesWholeOr}
use Rattle.pcap_export.specs.declared.status.Status.{Status}
use Rattle.pcap_export.specs.declared.status.Status.TheVariants.{Done, BadWords, BadCapture, ReadFault, WriteFault, NoMemory, TooLong}
use Rattle.pcap_export.specs.Answers.{Answer, asked}
use Rattle.pcap_export.specs.Ways.{ways_of}
use Rattle.fh_base.specs.declared.source.TheConstants.{INPUT_LIMIT}

-- the statuses that words and capture decide; the others have a cause beside them
abbrev pub IsDecided : Status → Type 0
IsDecided Done = Unit {0}
IsDecided BadWords = Unit {0}
IsDecided (BadCapture refusal) = Unit {0}
IsDecided status = ⊥

-- a run that failed in its source, and one that failed in its output
abbrev pub fails_source : Status → Bool
fails_source ReadFault = true
fails_source status = false

abbrev pub fails_output : Status → Bool
fails_output WriteFault = true
fails_output status = false

-- why an export over a whole capture answers a status, where this one is wanted
abbrev pub AnswersExport : Status → ℕ → ℕ → Status → Type 0
AnswersExport wanted before now Done = wanted ≡ Done
AnswersExport wanted before now (BadCapture refusal) = wanted ≡ BadCapture refusal
AnswersExport wanted before now WriteFault = Rose before now × (wanted ≡ Done)
AnswersExport wanted before now NoMemory = Unit {0}
AnswersExport wanted before now status = ⊥

-- what an export does over a whole capture
pub record Exports (a : Answer) (written_old written_new : Option (List ℕ)) (before now : ℕ) (status : Status) : Type 0 where
  pub front : WritesFront written_old written_new a.text
  pub whole : IsDecided status → written_new ≡ append_known written_old a.text
  pub answers : AnswersExport a.status before now status
  pub output : Counts (fails_output status) before now

-- why a run answers a status, where this one is wanted by the words over what was received
abbrev pub AnswersRun : Status → ℕ → ℕ → ℕ → ℕ → Status → Type 0
AnswersRun wanted source_before source_now out_before out_now ReadFault = Rose source_before source_now
AnswersRun wanted source_before source_now out_before out_now WriteFault = Rose out_before out_now × (wanted ≡ Done)
AnswersRun wanted source_before source_now out_before out_now NoMemory = Unit {0}
AnswersRun wanted source_before source_now out_before out_now TooLong = Unit {0}
AnswersRun wanted source_before source_now out_before out_now status = wanted ≡ status

-- what a run did, but for its line on standard error
pub record Outcome (words : List (List ℕ)) (left_old left_new : Option (List ℕ)) (source_before source_now : ℕ) (written_old written_new : Option (List ℕ)) (out_before out_now : ℕ) (status : Status) : Type 0 where
  -- the bytes that were received
  pub came : List ℕ
  pub taken : left_old ≡ prepend_known came left_new
  -- whatever the status, a front part was written of the one text of what was received
  pub front : WritesFront written_old written_new (asked (ways_of words) came).text
  -- a status that words and capture decide: it is the wanted one, all was read, and the one text is complete
  pub answers : AnswersRun (asked (ways_of words) came).status source_before source_now out_before out_now status
  pub ended : IsDecided status → IsSome (ways_of words) → IsAtEnd left_new
  pub whole : IsDecided status → written_new ≡ append_known written_old (asked (ways_of words) came).text
  -- the others, and words that are no ways
  pub bad_words : (status ≡ BadWords) ↔ IsNone (ways_of words)
  pub unread : (status ≡ ReadFault) ⊎ (status ≡ TooLong) → written_new ≡ written_old
  pub too_long : (status ≡ TooLong) ↔ INPUT_LIMIT < length came
  -- the source's count of faults rose exactly at a read fault, the output's exactly at a write fault
  pub source : Counts (fails_source status) source_before source_now
  pub output : Counts (fails_output status) out_before out_now
  -- a capture that can be read whole is answered as wanted, or for want of memory, where no fault rises; a refusal needs no sink
  pub complete : (bytes : List ℕ) → IsSome (ways_of words) → (Rose source_before source_now → ⊥) → left_old ≡ Some bytes → length bytes ≤ INPUT_LIMIT
      → (Rose out_before out_now → ⊥) ⊎ ((asked (ways_of words) bytes).status ≡ Done → ⊥)
      → (status ≡ (asked (ways_of words) bytes).status) ⊎ (status ≡ NoMemory)
