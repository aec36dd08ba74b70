-- A generated document, replayed.
use Rattle.std.proofs.Common.{◌≡◌, ◌∙◌, ℕ, ◌<◌, ◌≤◌, ◌^◌, List, Option, Some, Result, Ok, Err, sym, ap, subst}
use Rattle.std.specs.Prelude.{IfOk}
use Rattle.plan_model.specs.Valid.{IsValid}
use Rattle.generated_laws.proofs.Valid.{are_valid}
use Rattle.fh_document.specs.Answered.{Answers}
use Rattle.fh_document.specs.Document.{document_of}
use Rattle.fh_document.specs.Generated.{generated}
use Rattle.fh_document.specs.Proper.{IsDocument}
use Rattle.fh_document.specs.declared.document.Document.{Document}
use Rattle.fh_document.specs.declared.refusals.DocFault.{DocFault}
use Rattle.fh_document.specs.declared.refusals.DocFault.TheVariants as doc
use Rattle.fh_document.specs.declared.refusals.DocWhy.{DocWhy}
use Rattle.fh_document.proofs.Properness.{document_of_in}
use Rattle.generated_laws.specs.Documents.{document}
use Rattle.generated_laws.proofs.Read.{are_read}
use Rattle.document_traffic.proofs.Generated.{generated_are_undisturbed}
use Rattle.fronthaul_replay.proofs.LawLemmas.{is_sound}
use Rattle.command_words.specs.Words.{command_of}
use Rattle.command_words.specs.declared.commands.Command.TheVariants.{Trial}
use Rattle.command_words.proofs.Limits.{limits_are}
use Rattle.top_call.specs.declared.status.Status.{Status}
use Rattle.top_call.specs.Answers.{counted, of_document, of_plan, of_planned, tried}
use Rattle.top_call.specs.Endings.{unread_status}
use Rattle.top_call.specs.Run.{Performs}
use Rattle.top_call.specs.Trials.{IsTrial}
use Rattle.top_call.proofs.Documents.{wanting}

-- its plan is valid, so it is replayed
planned_is : (seed slots : ℕ) → of_planned counted (document seed slots) ≡ tried seed slots
unfolding of_planned
planned_is seed slots = ap (of_plan counted (document seed slots)) (are_valid slots)

-- ---- what the call does

pub read_as : (seed slots : ℕ) (bytes : List ℕ) (result : Result Document DocFault) → seed < 2 ^ 32 → 1 ≤ slots → slots ≤ 400 → bytes ≡ generated seed slots
    → Answers (document_of bytes) result → Answers (Ok (document seed slots)) result
read_as seed slots bytes result small some most is answers =
    subst (λ (wanted : Result Document (ℕ × DocWhy)). Answers wanted result) (ap document_of is ∙ are_read seed slots small some most) answers

pub counted_as : (seed slots : ℕ) (result : Result Document DocFault) (d : Document) (old new : Option (List ℕ)) (before now : ℕ) (status : Status)
    → result ≡ Ok d → Answers (Ok (document seed slots)) result → Performs (of_planned counted d) old new before now status → Performs (tried seed slots) old new before now status
counted_as seed slots result d old new before now status is answers performs =
    let both : Ok (document seed slots) ≡ Ok d = subst (Answers (Ok (document seed slots))) is answers in
    let same : document seed slots ≡ d = cc both in
    subst (λ a. Performs a old new before now status) (ap (of_planned counted) (sym same) ∙ planned_is seed slots) performs

uncounted : (seed slots : ℕ) (fault : DocFault) (written : Option (List ℕ)) (faults : ℕ) → Answers (Ok (document seed slots)) (Err fault)
    → Performs (tried seed slots) written written faults faults (unread_status fault)
uncounted seed slots (doc.At line why) written faults answers = absurd (cc answers)
uncounted seed slots doc.NoMemory written faults answers = wanting (tried seed slots) written faults

pub uncounted_as : (seed slots : ℕ) (result : Result Document DocFault) (fault : DocFault) (status : Status) (written : Option (List ℕ)) (faults : ℕ)
    → result ≡ Err fault → status ≡ unread_status fault → Answers (Ok (document seed slots)) result → Performs (tried seed slots) written written faults faults status
uncounted_as seed slots result fault status written faults is status_is answers =
    subst (Performs (tried seed slots) written written faults faults) (sym status_is)
    (uncounted seed slots fault written faults (subst (Answers (Ok (document seed slots))) is answers))

-- ---- what holds of it

trial_is : (seed slots : ℕ) → seed < 2 ^ 32 → 1 ≤ slots → slots ≤ 400 → IsTrial seed slots
trial_is seed slots small some most =
    let d = document seed slots in
    let read = are_read seed slots small some most in
    let valid : IsValid d.config d.plan = are_valid slots in
    let is : IsDocument d = subst (λ (r : Result Document (ℕ × DocWhy)). IfOk r IsDocument) read (document_of_in (generated seed slots)) in
    let sound = is_sound d (record { document = is; valid = valid }) in
    let calm = generated_are_undisturbed seed slots in
    record {
      read = read;
      valid = valid;
      counts = ap (of_document (of_planned counted)) read ∙ planned_is seed slots;
      sound = sound;
      radiates = sound.exactly_once calm.down;
      taken_in = sound.taken_in_once calm;
    }

pub trial_of : (words : List (List ℕ)) (seed slots : ℕ) → command_of words ≡ Some (Trial seed slots) → IsTrial seed slots
trial_of words seed slots is = (let l = limits_are words (Trial seed slots) is in trial_is seed slots l.0 l.1 l.2)
