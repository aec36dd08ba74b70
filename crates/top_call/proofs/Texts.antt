-- What becomes of a document's events that was to be written, and how the run ends.
use Rattle.std.proofs.Common.{◌≡◌, ℕ, List, Option, Result, Ok, Err, OnOk, OnErr, sym, subst}
use Rattle.std.specs.Io.KnownBytes.{append_known}
use Rattle.fh_base.specs.Told.{WritesFront, WritesPart}
use Rattle.fronthaul_replay.specs.Replay.{HasWriteCause}
use Rattle.fronthaul_replay.specs.declared.report.TextFault.{TextFault}
use Rattle.fronthaul_replay.specs.declared.report.TextFault.TheVariants as text
use Rattle.top_call.specs.declared.status.Status.{Status}
use Rattle.top_call.specs.declared.status.Status.TheVariants.{Done}
use Rattle.top_call.specs.Answers.{Answer}
use Rattle.top_call.specs.Endings.{text_status}
use Rattle.top_call.specs.Run.{IsRefusal, Performs}

put : (a : Answer) (old new : Option (List ℕ)) (before now : ℕ) (result : Result (Unit {0}) TextFault) → a.status ≡ Done
    → OnOk result (new ≡ append_known old a.text) → WritesFront old new a.text → OnErr result (WritesPart old new a.text) → HasWriteCause before now result → Performs a old new before now (text_status result)
put a old new before now (Ok u) done ok front part cause = record { front = front; whole = λ _. ok; part = λ stopped. absurd stopped; answers = done; faults = cause }
put a old new before now (Err text.WriteFault) done ok front part cause =
    record { front = front; whole = λ decided. absurd decided; part = λ _ _. part; answers = λ refusal. subst IsRefusal done refusal; faults = cause }
put a old new before now (Err text.NoMemory) done ok front part cause = record { front = front; whole = λ decided. absurd decided; part = λ _ _. part; answers = tt; faults = cause }

pub texted_as : (a : Answer) (old new : Option (List ℕ)) (before now : ℕ) (result : Result (Unit {0}) TextFault) (status : Status) → status ≡ text_status result → a.status ≡ Done
    → OnOk result (new ≡ append_known old a.text) → WritesFront old new a.text → OnErr result (WritesPart old new a.text) → HasWriteCause before now result → Performs a old new before now status
texted_as a old new before now result status is done ok front part cause = subst (Performs a old new before now) (sym is) (put a old new before now result done ok front part cause)
