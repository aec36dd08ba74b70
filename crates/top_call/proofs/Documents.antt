-- A command over a document that was read, or was not.
use Rattle.std.proofs.Common.{◌≡◌, ℕ, List, [], Option, Result, Err, refl, sym, ap, subst}
use Rattle.fh_base.specs.KnownLaws.{append_nothing}
use Rattle.fh_base.proofs.Progress.{front_none}
use Rattle.fh_document.specs.declared.document.Document.{Document}
use Rattle.fh_document.specs.declared.refusals.DocFault.{DocFault}
use Rattle.fh_document.specs.declared.refusals.DocFault.TheVariants as doc
use Rattle.fh_document.specs.Answered.{Answers}
use Rattle.fh_document.specs.Document.{document_of}
use Rattle.top_call.specs.declared.status.LineWhy.{LineWhy}
use Rattle.top_call.specs.declared.status.LineWhy.TheVariants.{Doc}
use Rattle.top_call.specs.declared.status.Status.{Status}
use Rattle.top_call.specs.declared.status.Status.TheVariants.{BadDocument, NoMemory}
use Rattle.top_call.specs.Answers.{Answer, of_document, refused}
use Rattle.top_call.specs.Endings.{unread_status}
use Rattle.top_call.specs.Run.{Performs}
use Rattle.top_call.proofs.Parts.{part_none}

-- nothing was done for want of memory
pub wanting : (a : Answer) (written : Option (List ℕ)) (faults : ℕ) → Performs a written written faults faults NoMemory
wanting a written faults = record { front = front_none written a.text; whole = λ decided. absurd decided; part = λ _. part_none written a.text; answers = tt; faults = refl }

-- nothing is written of a document that is refused
pub refuses : (line : ℕ) (why : LineWhy) (written : Option (List ℕ)) (faults : ℕ) → Performs (refused (BadDocument line why)) written written faults faults (BadDocument line why)
refuses line why written faults = record { front = front_none written []; whole = λ _. sym (append_nothing written); part = λ stopped. absurd stopped; answers = refl; faults = refl }

unread : (answer : Document → Answer) (bytes : List ℕ) (fault : DocFault) (written : Option (List ℕ)) (faults : ℕ) → Answers (document_of bytes) (Err fault)
    → Performs (of_document answer (document_of bytes)) written written faults faults (unread_status fault)
unread answer bytes (doc.At line why) written faults answers =
    subst (λ (a : Answer). Performs a written written faults faults (BadDocument line (Doc why))) (sym (ap (of_document answer) answers)) (refuses line (Doc why) written faults)
unread answer bytes doc.NoMemory written faults answers = wanting (of_document answer (document_of bytes)) written faults

pub unread_as : (answer : Document → Answer) (bytes : List ℕ) (result : Result Document DocFault) (fault : DocFault) (status : Status) (written : Option (List ℕ)) (faults : ℕ)
    → result ≡ Err fault → status ≡ unread_status fault → Answers (document_of bytes) result
    → Performs (of_document answer (document_of bytes)) written written faults faults status
unread_as answer bytes result fault status written faults is status_is answers =
    subst (Performs (of_document answer (document_of bytes)) written written faults faults) (sym status_is) (unread answer bytes fault written faults (subst (Answers (document_of bytes)) is answers))
