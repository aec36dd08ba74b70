-- A complete text that was to be written, and the status after it.
use Rattle.std.proofs.Common.{◌≡◌, ◌∙◌, ℕ, List, Option, Result, Ok, Err, OnOk, OnErr, false, refl, ap, sym, subst}
use Rattle.std.specs.Io.KnownBytes.{append_known}
use Rattle.fh_base.specs.Causes.{Counts, HasSinkCause, has_failed}
use Rattle.fh_base.specs.Told.{WritesFront, WritesPart}
use Rattle.fh_base.specs.declared.fault.SinkFault.{SinkFault}
use Rattle.fh_base.specs.declared.fault.SinkFault.TheVariants as sink
use Rattle.top_call.specs.declared.status.Status.{Status}
use Rattle.top_call.specs.declared.status.Status.TheVariants.{Done, BadWords, BadDocument, BadCapture, ReadFault, WriteFault, NoMemory, TooLong, CheckFails, BadPcap, BadText, NoFit}
use Rattle.window_config.specs.declared.delays.Delays.{Delays}
use Rattle.window_config.specs.declared.relations.Failing.{Failing}
use Rattle.window_plan.specs.declared.refusals.NoFit.{NoFit as Refusal}
use Rattle.top_call.specs.Answers.{Answer, fit_verdict, verdict_of}
use Rattle.top_call.specs.Endings.{ending_of}
use Rattle.top_call.specs.Run.{AnswersCommand, IsRefusal, IsStopped, IsVerdict, Performs, has_write_fault}

verdict_answers : (status : Status) → IsVerdict status → AnswersCommand status status
verdict_answers Done verdict = refl
verdict_answers BadWords verdict = absurd verdict
verdict_answers (BadDocument line why) verdict = absurd verdict
verdict_answers (BadCapture place why) verdict = absurd verdict
verdict_answers (BadPcap r) verdict = absurd verdict
verdict_answers (BadText line why) verdict = absurd verdict
verdict_answers ReadFault verdict = absurd verdict
verdict_answers WriteFault verdict = absurd verdict
verdict_answers NoMemory verdict = absurd verdict
verdict_answers TooLong verdict = absurd verdict
verdict_answers (CheckFails failing) verdict = refl
verdict_answers (NoFit refusal) verdict = refl

no_refusal : (status : Status) → IsVerdict status → IsRefusal status → ⊥
no_refusal Done verdict refusal = refusal
no_refusal BadWords verdict refusal = verdict
no_refusal (BadDocument line why) verdict refusal = verdict
no_refusal (BadCapture place why) verdict refusal = verdict
no_refusal (BadPcap r) verdict refusal = verdict
no_refusal (BadText line why) verdict refusal = verdict
no_refusal ReadFault verdict refusal = verdict
no_refusal WriteFault verdict refusal = verdict
no_refusal NoMemory verdict refusal = verdict
no_refusal TooLong verdict refusal = verdict
no_refusal (CheckFails failing) verdict refusal = refusal
no_refusal (NoFit refusal) verdict given = given

no_stop : (status : Status) → IsVerdict status → IsStopped status → ⊥
no_stop Done verdict stopped = stopped
no_stop BadWords verdict stopped = verdict
no_stop (BadDocument line why) verdict stopped = verdict
no_stop (BadCapture place why) verdict stopped = verdict
no_stop (BadPcap r) verdict stopped = verdict
no_stop (BadText line why) verdict stopped = verdict
no_stop ReadFault verdict stopped = verdict
no_stop WriteFault verdict stopped = verdict
no_stop NoMemory verdict stopped = verdict
no_stop TooLong verdict stopped = verdict
no_stop (CheckFails failing) verdict stopped = stopped
no_stop (NoFit refusal) verdict stopped = stopped

verdict_faultless : (status : Status) → IsVerdict status → has_write_fault status ≡ false
verdict_faultless Done verdict = refl
verdict_faultless BadWords verdict = refl
verdict_faultless (BadDocument line why) verdict = refl
verdict_faultless (BadCapture place why) verdict = refl
verdict_faultless (BadPcap r) verdict = refl
verdict_faultless (BadText line why) verdict = refl
verdict_faultless ReadFault verdict = refl
verdict_faultless WriteFault verdict = absurd verdict
verdict_faultless NoMemory verdict = refl
verdict_faultless TooLong verdict = refl
verdict_faultless (CheckFails failing) verdict = refl
verdict_faultless (NoFit refusal) verdict = refl

pub put : (a : Answer) (old new : Option (List ℕ)) (before now refused_before refused_now : ℕ) (result : Result (Unit {0}) SinkFault) → IsVerdict a.status
    → OnOk result (new ≡ append_known old a.text) → WritesFront old new a.text → OnErr result (WritesPart old new a.text) → HasSinkCause before now refused_before refused_now result
    → Performs a old new before now (ending_of result a.status)
put a old new before now refused_before refused_now (Ok u) verdict ok front part cause = record {
  front = front;
  whole = λ _. ok;
  part = λ stopped. absurd (no_stop a.status verdict stopped);
  answers = verdict_answers a.status verdict;
  faults = subst (λ f. Counts f before now) (sym (verdict_faultless a.status verdict)) cause.faults;
}
put a old new before now refused_before refused_now (Err sink.Failed) verdict ok front part cause =
    record { front = front; whole = λ decided. absurd decided; part = λ _ _. part; answers = no_refusal a.status verdict; faults = cause.faults }
put a old new before now refused_before refused_now (Err sink.NoMemory) verdict ok front part cause =
    record { front = front; whole = λ decided. absurd decided; part = λ _ _. part; answers = tt; faults = cause.faults }

pub put_as : (a : Answer) (old new : Option (List ℕ)) (before now refused_before refused_now : ℕ) (result : Result (Unit {0}) SinkFault) (status ended : Status)
    → ended ≡ ending_of result status → status ≡ a.status → IsVerdict a.status
    → OnOk result (new ≡ append_known old a.text) → WritesFront old new a.text → OnErr result (WritesPart old new a.text) → HasSinkCause before now refused_before refused_now result
    → Performs a old new before now ended
put_as a old new before now refused_before refused_now result status ended ending is verdict ok front part cause =
    subst (Performs a old new before now) (sym (ending ∙ ap (ending_of result) is)) (put a old new before now refused_before refused_now result verdict ok front part cause)

-- a text of whose writing only faults are counted, as memory is wanted besides
pub counted : (a : Answer) (old new : Option (List ℕ)) (before now : ℕ) (result : Result (Unit {0}) SinkFault) → a.status ≡ Done
    → OnOk result (new ≡ append_known old a.text) → WritesFront old new a.text → OnErr result (WritesPart old new a.text) → Counts (has_failed result) before now
    → Performs a old new before now (ending_of result Done)
counted a old new before now (Ok u) is ok front part counts =
    record { front = front; whole = λ _. ok; part = λ stopped. absurd (no_stop Done tt stopped); answers = is; faults = counts }
counted a old new before now (Err sink.Failed) is ok front part counts =
    record { front = front; whole = λ decided. absurd decided; part = λ _ _. part; answers = subst (λ s. IsRefusal s → ⊥) (sym is) (λ r. r); faults = counts }
counted a old new before now (Err sink.NoMemory) is ok front part counts =
    record { front = front; whole = λ decided. absurd decided; part = λ _ _. part; answers = tt; faults = counts }

pub counted_as : (a : Answer) (old new : Option (List ℕ)) (before now : ℕ) (result : Result (Unit {0}) SinkFault) (ended : Status) → ended ≡ ending_of result Done → a.status ≡ Done
    → OnOk result (new ≡ append_known old a.text) → WritesFront old new a.text → OnErr result (WritesPart old new a.text) → Counts (has_failed result) before now
    → Performs a old new before now ended
counted_as a old new before now result ended ending is ok front part counts =
    subst (Performs a old new before now) (sym ending) (counted a old new before now result is ok front part counts)

pub check_is_verdict : (checked : Result (Unit {0}) Failing) → IsVerdict (verdict_of checked)
check_is_verdict (Ok u) = tt
check_is_verdict (Err failing) = tt

pub fit_is_verdict : (fitted : Result Delays Refusal) → IsVerdict (fit_verdict fitted)
fit_is_verdict (Ok d) = tt
fit_is_verdict (Err refusal) = tt
