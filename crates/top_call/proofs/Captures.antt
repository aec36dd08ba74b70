-- A capture that was shown, or was refused.
use Rattle.std.proofs.Common.{◌≡◌, ◌∙◌, ℕ, List, [], Option, Result, Ok, Err, OnOk, OnErr, IfErr, refl, sym, ap, subst}
use Rattle.std.specs.Io.KnownBytes.{append_known}
use Rattle.capture_records.specs.declared.refusals.CaptureRefusal.{CaptureRefusal}
use Rattle.capture_records.specs.declared.refusals.CaptureWhy.{CaptureWhy}
use Rattle.capture_show.specs.declared.showing.ShowFault.{ShowFault}
use Rattle.capture_show.specs.declared.showing.ShowFault.TheVariants as show
use Rattle.fh_base.specs.Causes.{Counts}
use Rattle.capture_show.specs.Faults.{has_write_fault as show_failed}
use Rattle.fh_base.specs.Told.{WritesFront, WritesPart}
use Rattle.fh_base.specs.KnownLaws.{append_nothing}
use Rattle.fh_base.proofs.Progress.{front_none}
use Rattle.top_call.specs.declared.status.Status.{Status}
use Rattle.top_call.specs.declared.status.Status.TheVariants.{BadCapture}
use Rattle.top_call.specs.Answers.{of_capture, refused}
use Rattle.top_call.specs.Endings.{shown_status}
use Rattle.top_call.specs.Run.{Performs}

-- nothing is written of one that is refused
refuses : (place : ℕ) (why : CaptureWhy) (old new : Option (List ℕ)) (before now : ℕ) → new ≡ old → now ≡ before → Performs (refused (BadCapture place why)) old new before now (BadCapture place why)
refuses place why old new before now same still = record {
  front = subst (λ (w : Option (List ℕ)). WritesFront old w []) (sym same) (front_none old []);
  whole = λ _. same ∙ sym (append_nothing old);
  part = λ stopped. absurd stopped;
  answers = refl;
  faults = still;
}

-- a refusal was given, and so no other answer
abbrev Refuses : CaptureRefusal → Result (Unit {0}) ShowFault → Option (List ℕ) → Option (List ℕ) → Type 0
Refuses r result old new = (result ≡ Err (show.BadCapture r.place r.why)) × (new ≡ old)

shown : (text : List ℕ) (checked : Result (Unit {0}) CaptureRefusal) (old new : Option (List ℕ)) (before now : ℕ) (result : Result (Unit {0}) ShowFault)
    → OnOk result (new ≡ append_known old text) → WritesFront old new text → (checked ≡ Ok tt → OnErr result (WritesPart old new text)) → IfErr checked (λ r. Refuses r result old new)
    → ((place : ℕ) (why : CaptureWhy) → result ≡ Err (show.BadCapture place why) → checked ≡ Err (record { place = place; why = why }))
    → Counts (show_failed result) before now
    → Performs (of_capture text checked) old new before now (shown_status result)
shown text (Ok u) old new before now (Ok v) ok front part malformed refusal counts =
    record { front = front; whole = λ _. ok; part = λ stopped. absurd stopped; answers = refl; faults = counts }
shown text (Err r) old new before now (Ok v) ok front part malformed refusal counts = let e = malformed.0 in absurd (cc e)
shown text (Ok u) old new before now (Err (show.BadCapture place why)) ok front part malformed refusal counts = let e = refusal place why refl in absurd (cc e)
shown text (Err r) old new before now (Err (show.BadCapture place why)) ok front part malformed refusal counts =
    subst (Performs (refused (BadCapture r.place r.why)) old new before now) (sym (ap shown_status malformed.0)) (refuses r.place r.why old new before now malformed.1 counts)
shown text (Ok u) old new before now (Err show.WriteFault) ok front part malformed refusal counts =
    record { front = front; whole = λ decided. absurd decided; part = λ _ _. part refl; answers = λ r. r; faults = counts }
shown text (Err r) old new before now (Err show.WriteFault) ok front part malformed refusal counts = let e = malformed.0 in absurd (cc e)
shown text (Ok u) old new before now (Err show.NoMemory) ok front part malformed refusal counts =
    record { front = front; whole = λ decided. absurd decided; part = λ _ _. part refl; answers = tt; faults = counts }
shown text (Err r) old new before now (Err show.NoMemory) ok front part malformed refusal counts = let e = malformed.0 in absurd (cc e)

pub shown_as : (text : List ℕ) (checked : Result (Unit {0}) CaptureRefusal) (old new : Option (List ℕ)) (before now : ℕ) (result : Result (Unit {0}) ShowFault) (status : Status)
    → status ≡ shown_status result → OnOk result (new ≡ append_known old text) → WritesFront old new text → (checked ≡ Ok tt → OnErr result (WritesPart old new text))
    → IfErr checked (λ r. Refuses r result old new)
    → ((place : ℕ) (why : CaptureWhy) → result ≡ Err (show.BadCapture place why) → checked ≡ Err (record { place = place; why = why }))
    → Counts (show_failed result) before now
    → Performs (of_capture text checked) old new before now status
shown_as text checked old new before now result status is ok front part malformed refusal counts =
    subst (Performs (of_capture text checked) old new before now) (sym is) (shown text checked old new before now result ok front part malformed refusal counts)

-- what is refused leaves the sink, and so what it holds
pub held : {O : Type 0} → (written : O → Option (List ℕ)) (checked : Result (Unit {0}) CaptureRefusal) (result : Result (Unit {0}) ShowFault) (old new : O)
    → IfErr checked (λ r. (result ≡ Err (show.BadCapture r.place r.why)) × (new ≡ old)) → IfErr checked (λ r. Refuses r result (written old) (written new))
held written (Ok u) result old new h = tt
held written (Err r) result old new h = (h.0, ap written h.1)
