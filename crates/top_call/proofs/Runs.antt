-- A run, from what a command did over a whole input, or from why it did nothing.
use Rattle.std.proofs.Common.{◌≡◌, ◌⊎◌, ◌↔◌, inl, inr, ℕ, ◌+◌, ◌<◌, ◌≤◌, List, [], length, length-append, Bool, true, false, Option, None, Some, IfSome, IsSome, IsNone, refl, sym, ap, subst, ◌∙◌, ◌++◌, append-nil, is_some, arith, Result, Ok, Err, IfOk}
use Rattle.std.specs.Io.KnownBytes.{prepend_known, append_known, IsAtEnd}
use Rattle.command_words.specs.Words.{command_of}
use Rattle.command_words.specs.declared.commands.Command.{Command}
use Rattle.command_words.specs.declared.commands.Command.TheVariants.{Replay, Summary, Capture, Show, Explain, Sent, Windows, Fit, Generate, Trial, Shared, Idle, DrawGrid, DrawWindows, Pcap, PcapCapture}
use Rattle.fh_base.specs.Causes.{Counts, Rose, has_read_fault as read_failed}
use Rattle.fh_base.specs.Told.{WritesFront, WritesPart}
use Rattle.fh_base.specs.declared.fault.ReadAllFault.{ReadAllFault}
use Rattle.fh_base.specs.declared.fault.ReadAllFault.TheVariants as source
use Rattle.fh_base.proofs.Known.{prepend_nothing, came_all}
use Rattle.fh_base.specs.KnownLaws.{append_nothing}
use Rattle.fh_base.proofs.Progress.{front_none}
use Rattle.document_texts.proofs.DocumentLemmas.{explained as is_explained}
use Rattle.fh_document.specs.Document.{document_of}
use Rattle.fh_document.specs.declared.document.Document.{Document}
use Rattle.fh_document.specs.Proper.{IsDocument}
use Rattle.fh_document.proofs.Properness.{document_of_in}
use Rattle.fronthaul_replay.proofs.LawLemmas.{is_sound}
use Rattle.document_texts.proofs.IdleLemmas.{is_idle}
use Rattle.idle_spans.specs.Tables.{AreFrames}
use Rattle.document_texts.specs.SentLaws.{IsListed}
use Rattle.document_texts.proofs.RowLemmas.{is_listed}
use Rattle.document_texts.proofs.Summing.{summed, unit_sound}
use Rattle.top_call.specs.declared.status.Status.{Status}
use Rattle.top_call.specs.declared.status.Status.TheVariants.{Done, BadWords, BadDocument, BadCapture, ReadFault, WriteFault, NoMemory, TooLong, CheckFails, BadPcap, BadText, NoFit}
use Rattle.top_call.specs.Answers.{Answer, answer_of, asked, is_reading, reads}
use Rattle.top_call.specs.Endings.{source_status}
use Rattle.top_call.specs.Run.{AnswersCommand, AnswersRun, ExplainsFew, IsDecided, IsExplainedPlan, IsIdlePlan, IsRefusal, IsSharedPlan, IsSoundPlan, IsStopped, Outcome, Performs, has_read_fault, has_write_fault}
use Rattle.fh_base.specs.declared.source.TheConstants.{INPUT_LIMIT}
use Rattle.top_call.proofs.Trials.{trial_of}
use Rattle.top_call.proofs.Parts.{part_none}

-- ---- the laws of a document's events

sound_of : (bytes : List ℕ) → IfOk (document_of bytes) IsSoundPlan
sound_of bytes = each (document_of bytes) (document_of_in bytes)
  where
    each : {E : Type 0} (x : Result Document E) → IfOk x IsDocument → IfOk x IsSoundPlan
    each (Ok d) is = λ valid. is_sound d (record { document = is; valid = valid })
    each (Err why) is = tt

listed_of : (bytes : List ℕ) → IfOk (document_of bytes) IsListed
listed_of bytes = each (document_of bytes)
  where
    each : {E : Type 0} (x : Result Document E) → IfOk x IsListed
    each (Ok d) = is_listed d
    each (Err why) = tt

explained_of : (bytes : List ℕ) → IfOk (document_of bytes) IsExplainedPlan
explained_of bytes = each (document_of bytes) (document_of_in bytes)
  where
    each : {E : Type 0} (x : Result Document E) → IfOk x IsDocument → IfOk x IsExplainedPlan
    each (Ok d) is = λ valid. is_explained d (record { document = is; valid = valid })
    each (Err why) is = tt

shared_of : (bytes : List ℕ) → (count step : ℕ) → 1 ≤ count → IfOk (document_of bytes) (IsSharedPlan count step)
shared_of bytes count step some = each (document_of bytes) (document_of_in bytes)
  where
    each : {E : Type 0} (x : Result Document E) → IfOk x IsDocument → IfOk x (IsSharedPlan count step)
    each (Ok d) is = λ valid. (λ unit below. unit_sound d is valid step unit, summed d is valid step count some)
    each (Err why) is = tt

idle_of : (bytes : List ℕ) → (first last min : ℕ) → AreFrames first last → IfOk (document_of bytes) (IsIdlePlan first last min)
idle_of bytes first last min frames = each (document_of bytes) (document_of_in bytes)
  where
    each : {E : Type 0} (x : Result Document E) → IfOk x IsDocument → IfOk x (IsIdlePlan first last min)
    each (Ok d) is = λ valid. is_idle d first last min is valid frames
    each (Err why) is = tt

-- ---- what a command answers, a run answers

answers_run : (wanted : Status) (status : Status) → AnswersCommand wanted status → AnswersRun wanted status
answers_run wanted Done h = h
answers_run wanted BadWords h = absurd h
answers_run wanted (BadDocument line why) h = h
answers_run wanted (BadCapture place why) h = h
answers_run wanted (BadPcap refusal) h = h
answers_run wanted (BadText line why) h = h
answers_run wanted ReadFault h = absurd h
answers_run wanted WriteFault h = h
answers_run wanted NoMemory h = tt
answers_run wanted TooLong h = absurd h
answers_run wanted (CheckFails failing) h = h
answers_run wanted (NoFit refusal) h = h

-- a command answers none of these
not_outside : (wanted : Status) (status : Status) → AnswersCommand wanted status → (status ≡ BadWords) ⊎ ((status ≡ ReadFault) ⊎ (status ≡ TooLong)) → ⊥
not_outside wanted status h (inl e) = let b : AnswersCommand wanted BadWords = subst (AnswersCommand wanted) e h in b
not_outside wanted status h (inr (inl e)) = let b : AnswersCommand wanted ReadFault = subst (AnswersCommand wanted) e h in b
not_outside wanted status h (inr (inr e)) = let b : AnswersCommand wanted TooLong = subst (AnswersCommand wanted) e h in b

completes : (wanted : Status) (before now : ℕ) (status : Status) → AnswersCommand wanted status → Counts (has_write_fault status) before now → ((Rose before now → ⊥) ⊎ IsRefusal wanted)
    → (status ≡ wanted) ⊎ (status ≡ NoMemory)
completes wanted before now Done h counts p = inl (sym h)
completes wanted before now BadWords h counts p = absurd h
completes wanted before now (BadDocument line why) h counts p = inl (sym h)
completes wanted before now (BadCapture place why) h counts p = inl (sym h)
completes wanted before now (BadPcap refusal) h counts p = inl (sym h)
completes wanted before now (BadText line why) h counts p = inl (sym h)
completes wanted before now ReadFault h counts p = absurd h
completes wanted before now WriteFault h counts (inl calm) = absurd (calm counts.1)
completes wanted before now WriteFault h counts (inr refusal) = absurd (h refusal)
completes wanted before now NoMemory h counts p = inr refl
completes wanted before now TooLong h counts p = absurd h
completes wanted before now (CheckFails failing) h counts p = inl (sym h)
completes wanted before now (NoFit refusal) h counts p = inl (sym h)

-- the completeness of an answer that these bytes have, too
completes_as : (a b : Answer) (before now : ℕ) (status : Status) → a ≡ b → AnswersCommand b.status status → Counts (has_write_fault status) before now → ((Rose before now → ⊥) ⊎ IsRefusal a.status)
    → (status ≡ a.status) ⊎ (status ≡ NoMemory)
completes_as a b before now status same h counts =
    subst (λ (x : Answer). ((Rose before now → ⊥) ⊎ IsRefusal x.status) → (status ≡ x.status) ⊎ (status ≡ NoMemory)) (sym same) (completes b.status before now status h counts)

-- a command answers no read fault
no_read_fault : (wanted : Status) (s : ℕ) (status : Status) → AnswersCommand wanted status → Counts (has_read_fault status) s s
no_read_fault wanted s Done h = refl
no_read_fault wanted s BadWords h = refl
no_read_fault wanted s (BadDocument line why) h = refl
no_read_fault wanted s (BadCapture place why) h = refl
no_read_fault wanted s (BadPcap refusal) h = refl
no_read_fault wanted s (BadText line why) h = refl
no_read_fault wanted s ReadFault h = absurd h
no_read_fault wanted s WriteFault h = refl
no_read_fault wanted s NoMemory h = refl
no_read_fault wanted s TooLong h = refl
no_read_fault wanted s (CheckFails failing) h = refl
no_read_fault wanted s (NoFit refusal) h = refl

pub performed : (words : List (List ℕ)) (command : Command) (came : List ℕ) (left_old left_new : Option (List ℕ)) (s t : ℕ) (old new : Option (List ℕ)) (before now : ℕ) (status : Status)
    → command_of words ≡ Some command → Performs (answer_of command came) old new before now status → ExplainsFew (Some command) came status
    → left_old ≡ prepend_known came left_new → (reads command ≡ true → IsAtEnd left_new)
    → length came ≤ INPUT_LIMIT → t ≡ s → IfSome left_old (λ bytes. WritesFront old new (answer_of command bytes).text)
    → ((bytes : List ℕ) → (reads command ≡ true → left_old ≡ Some bytes) → answer_of command bytes ≡ answer_of command came)
    → Outcome words left_old left_new s t old new before now status
performed words command came left_old left_new s t old new before now status is p few taken ended within still front same =
    let e = sym is in
    record {
      came = came;
      taken = taken;
      front = subst (λ (o : Option Command). IfSome left_old (λ bytes. WritesFront old new (asked o bytes).text)) e front;
      front_came = subst (λ (o : Option Command). WritesFront old new (asked o came).text) e p.front;
      answers = subst (λ (o : Option Command). AnswersRun (asked o came).status status) e (answers_run (answer_of command came).status status p.answers);
      ended = λ d r. ended (ap is_reading e ∙ r);
      whole = λ d. subst (λ (o : Option Command). new ≡ append_known old (asked o came).text) e (p.whole d);
      bad_words = (λ b. absurd (not_outside _ status p.answers (inl b)), λ none. let x : IsNone (Some command) = subst (λ (o : Option Command). IsNone o) is none in absurd (cc x));
      unread = λ u. absurd (not_outside _ status p.answers (inr u));
      too_long = (λ l. absurd (not_outside _ status p.answers (inr (inr l))), λ past. absurd (omega (arith, past, within)));
      source = subst (Counts (has_read_fault status) s) (sym still) (no_read_fault (answer_of command came).status s status p.answers);
      out = p.faults;
      part = subst (λ (o : Option Command). IsStopped status → ((asked o came).text ≡ [] → ⊥) → WritesPart old new (asked o came).text) e p.part;
      reading = λ u. absurd (not_outside _ status p.answers (inr u));
      complete = λ bytes some given.
          subst (λ (o : Option Command). ((Rose before now → ⊥) ⊎ IsRefusal (asked o bytes).status) → (status ≡ (asked o bytes).status) ⊎ (status ≡ NoMemory)) e
          (completes_as (answer_of command bytes) (answer_of command came) before now status (same bytes (λ r. (given (ap is_reading is ∙ r)).1)) p.answers p.faults);
      sound = sound_of came;
      trial = trial_of words;
      listed = listed_of came;
      explained = explained_of came;
      few = subst (λ (o : Option Command). ExplainsFew o came status) e few;
      shared = shared_of came;
      idle = idle_of came;
    }

-- ---- a command that reads nothing

-- it has the same answer to every input
same_answer : (command : Command) (bytes : List ℕ) → reads command ≡ false → answer_of command bytes ≡ answer_of command []
unfolding answer_of
same_answer Replay bytes h = cc
same_answer Summary bytes h = cc
same_answer Capture bytes h = cc
same_answer (Show json) bytes h = cc
same_answer (Explain faults) bytes h = cc
same_answer Sent bytes h = cc
same_answer Windows bytes h = cc
same_answer Fit bytes h = cc
same_answer (Generate seed slots) bytes h = refl
same_answer (Trial seed slots) bytes h = refl
same_answer (Shared count step) bytes h = cc
same_answer (Idle first last min) bytes h = cc
same_answer (DrawGrid frame subframe count) bytes h = cc
same_answer DrawWindows bytes h = cc
same_answer (Pcap whose start) bytes h = cc
same_answer (PcapCapture whose start) bytes h = cc

front_any : (left old new : Option (List ℕ)) (command : Command) → reads command ≡ false → WritesFront old new (answer_of command []).text → IfSome left (λ bytes. WritesFront old new (answer_of command bytes).text)
front_any None old new command h front = tt
front_any (Some bytes) old new command h front = subst (λ a. WritesFront old new a.text) (sym (same_answer command bytes h)) front

pub made : (words : List (List ℕ)) (command : Command) (left : Option (List ℕ)) (s : ℕ) (old new : Option (List ℕ)) (before now : ℕ) (status : Status)
    → command_of words ≡ Some command → reads command ≡ false → Performs (answer_of command []) old new before now status → ExplainsFew (Some command) [] status
    → Outcome words left left s s old new before now status
made words command left s old new before now status is none p few =
    performed words command [] left left s s old new before now status is p few (sym (prepend_nothing left)) (λ r. cc) (omega arith) refl
    (front_any left old new command none p.front) (λ bytes _. same_answer command bytes none)

-- ---- a command that read all

-- what was received is all that was left, where the source is at its end
front_read : (came : List ℕ) (left_old left_new old new : Option (List ℕ)) (command : Command) → left_old ≡ prepend_known came left_new → IsAtEnd left_new
    → WritesFront old new (answer_of command came).text → IfSome left_old (λ bytes. WritesFront old new (answer_of command bytes).text)
front_read came left_old left_new old new command taken ended front =
    subst (λ (o : Option (List ℕ)). IfSome o (λ bytes. WritesFront old new (answer_of command bytes).text)) (sym taken) (go left_new ended)
  where
    go : (left : Option (List ℕ)) → IsAtEnd left → IfSome (prepend_known came left) (λ bytes. WritesFront old new (answer_of command bytes).text)
    go None h = tt
    go (Some rest) h = subst (λ (bytes : List ℕ). WritesFront old new (answer_of command bytes).text) (sym (ap (λ r. came ++ r) h ∙ append-nil came)) front

pub read : (words : List (List ℕ)) (command : Command) (bytes came : List ℕ) (left_old left_new : Option (List ℕ)) (s t : ℕ) (old new : Option (List ℕ)) (before now : ℕ) (status : Status)
    → command_of words ≡ Some command → reads command ≡ true → bytes ≡ came → Performs (answer_of command bytes) old new before now status → ExplainsFew (Some command) bytes status
    → left_old ≡ prepend_known came left_new → IsAtEnd left_new → length came ≤ INPUT_LIMIT → t ≡ s
    → Outcome words left_old left_new s t old new before now status
read words command bytes came left_old left_new s t old new before now status is does same p few taken ended within still =
    let q : Performs (answer_of command came) old new before now status = subst (λ (b : List ℕ). Performs (answer_of command b) old new before now status) same p in
    performed words command came left_old left_new s t old new before now status is q (subst (λ (b : List ℕ). ExplainsFew (Some command) b status) same few) taken (λ _. ended) within still
    (front_read came left_old left_new old new command taken ended q.front)
    (λ all given. ap (answer_of command) (came_all came all left_old left_new taken ended (given does)))

-- ---- a run that does nothing

nothing_written : (words : List (List ℕ)) (left written : Option (List ℕ)) → IfSome left (λ bytes. WritesFront written written (asked (command_of words) bytes).text)
nothing_written words None written = tt
nothing_written words (Some bytes) written = front_none written (asked (command_of words) bytes).text

pub no_command : (words : List (List ℕ)) (left : Option (List ℕ)) (s : ℕ) (written : Option (List ℕ)) (o : ℕ) → command_of words ≡ None
    → Outcome words left left s s written written o o BadWords
no_command words left s written o none =
    let e = sym none in
    record {
      came = [];
      taken = sym (prepend_nothing left);
      front = nothing_written words left written;
      front_came = front_none written (asked (command_of words) []).text;
      answers = subst (λ (x : Option Command). AnswersRun (asked x []).status BadWords) e refl;
      ended = λ d r. let b : is_reading None ≡ true = ap is_reading e ∙ r in absurd (cc b);
      whole = λ d. subst (λ (x : Option Command). written ≡ append_known written (asked x []).text) e (sym (append_nothing written));
      bad_words = (λ _. ap is_some none, λ _. refl);
      unread = λ _. refl;
      too_long = (λ is. absurd (cc is), λ past. absurd (omega (arith, past)));
      source = refl;
      out = refl;
      part = λ stopped. absurd stopped;
      reading = λ u. absurd (elim u [ inl is ↦ cc is | inr is ↦ cc is ]);
      complete = λ bytes some. absurd (cc (ap is_some none, some));
      sound = sound_of [];
      trial = trial_of words;
      listed = listed_of [];
      explained = explained_of [];
      few = λ faults wanted done. absurd (cc done);
      shared = shared_of [];
      idle = idle_of [];
    }

-- the statuses of a run that stops before its command does anything
abbrev pub IsStop : Status → Type 0
IsStop ReadFault = Unit {0}
IsStop NoMemory = Unit {0}
IsStop TooLong = Unit {0}
IsStop status = ⊥

not_decided : (status : Status) → IsStop status → IsDecided status → ⊥
not_decided Done stop decided = stop
not_decided BadWords stop decided = stop
not_decided (BadDocument line why) stop decided = stop
not_decided (BadCapture place why) stop decided = stop
not_decided (BadPcap refusal) stop decided = stop
not_decided (BadText line why) stop decided = stop
not_decided ReadFault stop decided = decided
not_decided WriteFault stop decided = stop
not_decided NoMemory stop decided = decided
not_decided TooLong stop decided = decided
not_decided (CheckFails failing) stop decided = stop
not_decided (NoFit refusal) stop decided = stop

stop_answers : (wanted : Status) (status : Status) → IsStop status → AnswersRun wanted status
stop_answers wanted Done stop = absurd stop
stop_answers wanted BadWords stop = absurd stop
stop_answers wanted (BadDocument line why) stop = absurd stop
stop_answers wanted (BadCapture place why) stop = absurd stop
stop_answers wanted (BadPcap refusal) stop = absurd stop
stop_answers wanted (BadText line why) stop = absurd stop
stop_answers wanted ReadFault stop = tt
stop_answers wanted WriteFault stop = absurd stop
stop_answers wanted NoMemory stop = tt
stop_answers wanted TooLong stop = tt
stop_answers wanted (CheckFails failing) stop = absurd stop
stop_answers wanted (NoFit refusal) stop = absurd stop

stop_counts : (o : ℕ) (status : Status) → IsStop status → Counts (has_write_fault status) o o
stop_counts o Done stop = absurd stop
stop_counts o BadWords stop = absurd stop
stop_counts o (BadDocument line why) stop = absurd stop
stop_counts o (BadCapture place why) stop = absurd stop
stop_counts o (BadPcap refusal) stop = absurd stop
stop_counts o (BadText line why) stop = absurd stop
stop_counts o ReadFault stop = refl
stop_counts o WriteFault stop = absurd stop
stop_counts o NoMemory stop = refl
stop_counts o TooLong stop = refl
stop_counts o (CheckFails failing) stop = absurd stop
stop_counts o (NoFit refusal) stop = absurd stop

-- a part is no longer than all that was left
part_short : (came bytes : List ℕ) (left_old left_new : Option (List ℕ)) → left_old ≡ prepend_known came left_new → left_old ≡ Some bytes → length came ≤ length bytes
part_short came bytes left_old None taken is = cc
part_short came bytes left_old (Some rest) taken is =
    let both : Some bytes ≡ Some (came ++ rest) = sym is ∙ taken in
    let same : bytes ≡ came ++ rest = cc both in
    let long : length bytes ≡ length came + length rest = ap length same ∙ length-append came rest in
    omega arith

-- where the source did not fail and what was left is short enough, only memory stops a run
stop_wants : (wanted : Status) (came bytes : List ℕ) (left_old left_new : Option (List ℕ)) (s t : ℕ) (status : Status) → IsStop status → Counts (has_read_fault status) s t
    → ((status ≡ TooLong) ↔ INPUT_LIMIT < length came) → left_old ≡ prepend_known came left_new
    → (Rose s t → ⊥) × (left_old ≡ Some bytes) × (length bytes ≤ INPUT_LIMIT) → (status ≡ wanted) ⊎ (status ≡ NoMemory)
stop_wants wanted came bytes left_old left_new s t Done stop counts long taken given = absurd stop
stop_wants wanted came bytes left_old left_new s t BadWords stop counts long taken given = absurd stop
stop_wants wanted came bytes left_old left_new s t (BadDocument line why) stop counts long taken given = absurd stop
stop_wants wanted came bytes left_old left_new s t (BadCapture place why) stop counts long taken given = absurd stop
stop_wants wanted came bytes left_old left_new s t (BadPcap refusal) stop counts long taken given = absurd stop
stop_wants wanted came bytes left_old left_new s t (BadText line why) stop counts long taken given = absurd stop
stop_wants wanted came bytes left_old left_new s t ReadFault stop counts long taken given = absurd (given.0 counts.1)
stop_wants wanted came bytes left_old left_new s t WriteFault stop counts long taken given = absurd stop
stop_wants wanted came bytes left_old left_new s t NoMemory stop counts long taken given = inr refl
stop_wants wanted came bytes left_old left_new s t TooLong stop counts long taken given =
    let past : INPUT_LIMIT < length came = long.0 refl in
    let part = part_short came bytes left_old left_new taken given.1 in
    let short : length bytes ≤ INPUT_LIMIT = given.2 in
    absurd (omega arith)
stop_wants wanted came bytes left_old left_new s t (CheckFails failing) stop counts long taken given = absurd stop
stop_wants wanted came bytes left_old left_new s t (NoFit refusal) stop counts long taken given = absurd stop

stopped : (words : List (List ℕ)) (command : Command) (came : List ℕ) (left_old left_new : Option (List ℕ)) (s t : ℕ) (written : Option (List ℕ)) (o : ℕ) (status : Status)
    → command_of words ≡ Some command → reads command ≡ true → IsStop status → Counts (has_read_fault status) s t → ((status ≡ TooLong) ↔ INPUT_LIMIT < length came)
    → left_old ≡ prepend_known came left_new
    → Outcome words left_old left_new s t written written o o status
stopped words command came left_old left_new s t written o status is does stop counts long taken =
    record {
      came = came;
      taken = taken;
      front = nothing_written words left_old written;
      front_came = front_none written (asked (command_of words) came).text;
      answers = stop_answers (asked (command_of words) came).status status stop;
      ended = λ d. absurd (not_decided status stop d);
      whole = λ d. absurd (not_decided status stop d);
      bad_words = (λ b. absurd (subst IsStop b stop), λ none. let x : IsNone (Some command) = subst (λ (c : Option Command). IsNone c) is none in absurd (cc x));
      unread = λ _. refl;
      too_long = long;
      source = counts;
      out = stop_counts o status stop;
      part = λ _ some. part_none written (asked (command_of words) came).text some;
      reading = λ _. ap is_reading is ∙ does;
      complete = λ bytes some given ok. stop_wants (asked (command_of words) bytes).status came bytes left_old left_new s t status stop counts long taken (given (ap is_reading is ∙ does));
      sound = sound_of came;
      trial = trial_of words;
      listed = listed_of came;
      explained = explained_of came;
      few = λ faults wanted done. absurd (subst IsStop done stop);
      shared = shared_of came;
      idle = idle_of came;
    }

-- reading failed in the source
abbrev pub has_fault : ReadAllFault → Bool
has_fault source.ReadFault = true
has_fault source.TooLong = false
has_fault source.NoMemory = false

-- it is counted so
pub counted : (fault : ReadAllFault) (s t : ℕ) → (let one : Result (List ℕ) ReadAllFault = Err fault in Counts (read_failed one) s t) → Counts (has_fault fault) s t
counted source.ReadFault s t counts = counts
counted source.TooLong s t counts = counts
counted source.NoMemory s t counts = counts

-- the source was not read to its end
unread : (words : List (List ℕ)) (command : Command) (came : List ℕ) (left_old left_new : Option (List ℕ)) (s t : ℕ) (written : Option (List ℕ)) (o : ℕ) (fault : ReadAllFault)
    → command_of words ≡ Some command → reads command ≡ true → Counts (has_fault fault) s t → ((fault ≡ source.TooLong) ↔ INPUT_LIMIT < length came)
    → left_old ≡ prepend_known came left_new
    → Outcome words left_old left_new s t written written o o (source_status fault)
unread words command came left_old left_new s t written o source.ReadFault is does counts long taken =
    stopped words command came left_old left_new s t written o ReadFault is does tt counts ((λ e. cc), (λ past. absurd (cc (long.1 past)))) taken
unread words command came left_old left_new s t written o source.TooLong is does counts long taken =
    stopped words command came left_old left_new s t written o TooLong is does tt counts ((λ e. long.0 refl), (λ past. refl)) taken
unread words command came left_old left_new s t written o source.NoMemory is does counts long taken =
    stopped words command came left_old left_new s t written o NoMemory is does tt counts ((λ e. absurd (cc e)), (λ past. absurd (cc (long.1 past)))) taken

pub unread_as : (words : List (List ℕ)) (command : Command) (came : List ℕ) (left_old left_new : Option (List ℕ)) (s t : ℕ) (written : Option (List ℕ)) (o : ℕ) (fault : ReadAllFault) (status : Status)
    → status ≡ source_status fault → command_of words ≡ Some command → reads command ≡ true → Counts (has_fault fault) s t
    → ((fault ≡ source.TooLong) ↔ INPUT_LIMIT < length came) → left_old ≡ prepend_known came left_new
    → Outcome words left_old left_new s t written written o o status
unread_as words command came left_old left_new s t written o fault status status_is is does counts long taken =
    subst (Outcome words left_old left_new s t written written o o) (sym status_is) (unread words command came left_old left_new s t written o fault is does counts long taken)

-- memory ran out while the words were read
pub wordless : (words : List (List ℕ)) (left : Option (List ℕ)) (s : ℕ) (written : Option (List ℕ)) (o : ℕ) → IsSome (command_of words)
    → Outcome words left left s s written written o o NoMemory
wordless words left s written o some =
    record {
      came = [];
      taken = sym (prepend_nothing left);
      front = nothing_written words left written;
      front_came = front_none written (asked (command_of words) []).text;
      answers = tt;
      ended = λ d. absurd d;
      whole = λ d. absurd d;
      bad_words = (λ b. absurd (cc b), λ none. absurd (cc (none, some)));
      unread = λ _. refl;
      too_long = (λ is. absurd (cc is), λ past. absurd (omega (arith, past)));
      source = refl;
      out = refl;
      part = λ _ some. part_none written (asked (command_of words) []).text some;
      reading = λ u. absurd (elim u [ inl is ↦ cc is | inr is ↦ cc is ]);
      complete = λ bytes some given ok. inr refl;
      sound = sound_of [];
      trial = trial_of words;
      listed = listed_of [];
      explained = explained_of [];
      few = λ faults wanted done. absurd (cc done);
      shared = shared_of [];
      idle = idle_of [];
    }
