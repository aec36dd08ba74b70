-- A run, from what an export did over a whole capture, or from why it did nothing.
use Rattle.std.proofs.Common.{◌≡◌, ◌⊎◌, inl, inr, ℕ, ◌≤◌, List, [], length, Option, None, Some, IsNone, is_some, refl, sym, ap, subst, arith, Result, Ok, Err, OnOk}
use Rattle.std.specs.Io.KnownBytes.{prepend_known, append_known, IsAtEnd}
use Rattle.fh_base.specs.Causes.{Rose, Counts, HasSinkCause}
use Rattle.fh_base.specs.Told.{WritesFront}
use Rattle.fh_base.specs.declared.fault.SinkFault.{SinkFault}
use Rattle.fh_base.specs.declared.fault.SinkFault.TheVariants as sink
use Rattle.fh_base.proofs.Known.{prepend_nothing, came_all}
use Rattle.fh_base.specs.KnownLaws.{append_nothing}
use Rattle.fh_base.proofs.Progress.{front_none}
use Rattle.pcap_export.specs.declared.refusals.ExportRefusal.{ExportRefusal}
use Rattle.pcap_export.specs.declared.status.Status.{Status}
use Rattle.pcap_export.specs.declared.status.Status.TheVariants.{Done, BadWords, BadCapture, ReadFault, WriteFault, NoMemory, TooLong}
use Rattle.pcap_export.specs.declared.ways.Ways.{Ways}
use Rattle.pcap_export.specs.Answers.{asked, ending_of, exported, of_capture, refused}
use Rattle.pcap_export.specs.Run.{AnswersExport, AnswersRun, Exports, Outcome, fails_source}
use Rattle.pcap_export.specs.Ways.{ways_of}
use Rattle.fh_base.specs.declared.source.TheConstants.{INPUT_LIMIT}

-- ---- an export

-- the file was written, as far as it was
pub put : (text : List ℕ) (checked : Result (Unit {0}) ExportRefusal) (old new : Option (List ℕ)) (before now refused_before refused_now : ℕ) (result : Result (Unit {0}) SinkFault) (status : Status)
    → checked ≡ Ok tt → status ≡ ending_of result → OnOk result (new ≡ append_known old text) → WritesFront old new text → HasSinkCause before now refused_before refused_now result
    → Exports (of_capture text checked) old new before now status
put text checked old new before now refused_before refused_now result status passed is ok front cause =
    subst (λ (c : Result (Unit {0}) ExportRefusal). Exports (of_capture text c) old new before now status) (sym passed)
    (subst (Exports (of_capture text (Ok tt)) old new before now) (sym is) (go result ok cause))
  where
    go : (r : Result (Unit {0}) SinkFault) → OnOk r (new ≡ append_known old text) → HasSinkCause before now refused_before refused_now r → Exports (of_capture text (Ok tt)) old new before now (ending_of r)
    go (Ok u) ok cause = record { front = front; whole = λ _. ok; answers = refl; output = cause.faults }
    go (Err sink.Failed) ok cause = record { front = front; whole = λ decided. absurd decided; answers = (cause.faults.1, refl); output = cause.faults }
    go (Err sink.NoMemory) ok cause = record { front = front; whole = λ decided. absurd decided; answers = tt; output = cause.faults }

-- ---- what an export answers, a run answers

answers_run : (wanted : Status) (s t before now : ℕ) (status : Status) → AnswersExport wanted before now status → AnswersRun wanted s t before now status
answers_run wanted s t before now Done h = h
answers_run wanted s t before now BadWords h = absurd h
answers_run wanted s t before now (BadCapture refusal) h = h
answers_run wanted s t before now ReadFault h = absurd h
answers_run wanted s t before now WriteFault h = h
answers_run wanted s t before now NoMemory h = tt
answers_run wanted s t before now TooLong h = absurd h

-- it does not fail in the source
source_still : (wanted : Status) (before now : ℕ) (status : Status) (s t : ℕ) → t ≡ s → AnswersExport wanted before now status → Counts (fails_source status) s t
source_still wanted before now Done s t still h = still
source_still wanted before now BadWords s t still h = absurd h
source_still wanted before now (BadCapture refusal) s t still h = still
source_still wanted before now ReadFault s t still h = absurd h
source_still wanted before now WriteFault s t still h = still
source_still wanted before now NoMemory s t still h = still
source_still wanted before now TooLong s t still h = absurd h

-- it answers none of these
not_outside : (wanted : Status) (before now : ℕ) (status : Status) → AnswersExport wanted before now status → (status ≡ BadWords) ⊎ ((status ≡ ReadFault) ⊎ (status ≡ TooLong)) → ⊥
not_outside wanted before now status h (inl e) = let b : AnswersExport wanted before now BadWords = subst (AnswersExport wanted before now) e h in b
not_outside wanted before now status h (inr (inl e)) = let b : AnswersExport wanted before now ReadFault = subst (AnswersExport wanted before now) e h in b
not_outside wanted before now status h (inr (inr e)) = let b : AnswersExport wanted before now TooLong = subst (AnswersExport wanted before now) e h in b

completes : (wanted : Status) (before now : ℕ) (status : Status) → AnswersExport wanted before now status → ((Rose before now → ⊥) ⊎ (wanted ≡ Done → ⊥)) → (status ≡ wanted) ⊎ (status ≡ NoMemory)
completes wanted before now Done h p = inl (sym h)
completes wanted before now BadWords h p = absurd h
completes wanted before now (BadCapture refusal) h p = inl (sym h)
completes wanted before now ReadFault h p = absurd h
completes wanted before now WriteFault h (inl calm) = absurd (calm h.0)
completes wanted before now WriteFault h (inr refused) = absurd (refused h.1)
completes wanted before now NoMemory h p = inr refl
completes wanted before now TooLong h p = absurd h

-- the capture was read to its end
pub read : (words : List (List ℕ)) (ways : Ways) (bytes came : List ℕ) (left_old left_new : Option (List ℕ)) (s t : ℕ) (old new : Option (List ℕ)) (before now : ℕ) (status : Status)
    → ways_of words ≡ Some ways → bytes ≡ came → Exports (exported ways bytes) old new before now status
    → left_old ≡ prepend_known came left_new → IsAtEnd left_new → length came ≤ INPUT_LIMIT → t ≡ s
    → Outcome words left_old left_new s t old new before now status
read words ways bytes came left_old left_new s t old new before now status is same p taken ended within still =
    let q : Exports (exported ways came) old new before now status = subst (λ (b : List ℕ). Exports (exported ways b) old new before now status) same p in
    let e = sym is in
    record {
      came = came;
      taken = taken;
      front = subst (λ (o : Option Ways). WritesFront old new (asked o came).text) e q.front;
      answers = subst (λ (o : Option Ways). AnswersRun (asked o came).status s t before now status) e (answers_run (exported ways came).status s t before now status q.answers);
      ended = λ _ _. ended;
      whole = λ d. subst (λ (o : Option Ways). new ≡ append_known old (asked o came).text) e (q.whole d);
      bad_words = (λ b. absurd (not_outside _ before now status q.answers (inl b)), λ none. let x : IsNone (Some ways) = subst (λ (o : Option Ways). IsNone o) is none in absurd (cc x));
      unread = λ u. absurd (not_outside _ before now status q.answers (inr u));
      too_long = (λ l. absurd (not_outside _ before now status q.answers (inr (inr l))), λ past. absurd (omega (arith, past, within)));
      source = source_still (exported ways came).status before now status s t still q.answers;
      output = q.output;
      complete = λ all some calm left short.
          subst (λ (o : Option Ways). ((Rose before now → ⊥) ⊎ ((asked o all).status ≡ Done → ⊥)) → (status ≡ (asked o all).status) ⊎ (status ≡ NoMemory)) e
          (subst (λ (b : List ℕ). ((Rose before now → ⊥) ⊎ ((exported ways b).status ≡ Done → ⊥)) → (status ≡ (exported ways b).status) ⊎ (status ≡ NoMemory))
          (sym (came_all came all left_old left_new taken ended left)) (completes (exported ways came).status before now status q.answers));
    }

-- ---- a run that does nothing

pub no_ways : (words : List (List ℕ)) (left : Option (List ℕ)) (s : ℕ) (written : Option (List ℕ)) (o : ℕ) → ways_of words ≡ None
    → Outcome words left left s s written written o o BadWords
no_ways words left s written o none =
    let e = sym none in
    record {
      came = [];
      taken = sym (prepend_nothing left);
      front = front_none written (asked (ways_of words) []).text;
      answers = subst (λ (x : Option Ways). AnswersRun (asked x []).status s s o o BadWords) e refl;
      ended = λ _ some. absurd (cc (ap is_some none, some));
      whole = λ d. subst (λ (x : Option Ways). written ≡ append_known written (asked x []).text) e (sym (append_nothing written));
      bad_words = (λ _. ap is_some none, λ _. refl);
      unread = λ _. refl;
      too_long = (λ is. absurd (cc is), λ past. absurd (omega (arith, past)));
      source = refl;
      output = refl;
      complete = λ bytes some. absurd (cc (ap is_some none, some));
    }
