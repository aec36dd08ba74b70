-- The text of a shared cell that was to be written, and how the run ends.
use Rattle.std.proofs.Common.{◌≡◌, ℕ, List, Option, Result, Ok, Err, OnOk, OnErr, sym, subst}
use Rattle.std.specs.Io.KnownBytes.{append_known}
use Rattle.fh_base.specs.Told.{WritesFront, WritesPart}
use Rattle.document_texts.specs.Faults.{HasShareCause}
use Rattle.document_texts.specs.declared.faults.ShareFault.{ShareFault}
use Rattle.document_texts.specs.declared.faults.ShareFault.TheVariants as share
use Rattle.top_call.specs.declared.status.Status.{Status}
use Rattle.top_call.specs.declared.status.Status.TheVariants.{Done}
use Rattle.top_call.specs.Answers.{Answer}
use Rattle.top_call.specs.Endings.{share_status}
use Rattle.top_call.specs.Run.{IsRefusal, Performs}

put : (a : Answer) (old new : Option (List ℕ)) (before now : ℕ) (result : Result (Unit {0}) ShareFault) → a.status ≡ Done
    → OnOk result (new ≡ append_known old a.text) → WritesFront old new a.text → OnErr result (WritesPart old new a.text) → HasShareCause before now result → Performs a old new before now (share_status result)
put a old new before now (Ok u) done ok front part cause = record { front = front; whole = λ _. ok; part = λ stopped. absurd stopped; answers = done; faults = cause }
put a old new before now (Err share.WriteFault) done ok front part cause =
    record { front = front; whole = λ decided. absurd decided; part = λ _ _. part; answers = λ refusal. subst IsRefusal done refusal; faults = cause }
put a old new before now (Err share.NoMemory) done ok front part cause = record { front = front; whole = λ decided. absurd decided; part = λ _ _. part; answers = tt; faults = cause }

pub shared_as : (a : Answer) (old new : Option (List ℕ)) (before now : ℕ) (result : Result (Unit {0}) ShareFault) (status : Status) → status ≡ share_status result → a.status ≡ Done
    → OnOk result (new ≡ append_known old a.text) → WritesFront old new a.text → OnErr result (WritesPart old new a.text) → HasShareCause before now result → Performs a old new before now status
shared_as a old new before now result status is done ok front part cause = subst (Performs a old new before now) (sym is) (put a old new before now result done ok front part cause)
