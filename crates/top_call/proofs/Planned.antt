-- A command over a document that was read, with its plan.
use Rattle.std.proofs.Common.{◌≡◌, ℕ, List, Option, Result, Ok, Err, sym, subst}
use Rattle.du_scheduler.specs.Plans.{Checks, HasToSend}
use Rattle.du_scheduler.specs.declared.plans.Plan.{Plan}
use Rattle.fh_document.specs.Answered.{Answers}
use Rattle.fh_document.specs.Document.{document_of}
use Rattle.fh_document.specs.declared.document.Document.{Document}
use Rattle.fh_document.specs.declared.refusals.DocFault.{DocFault}
use Rattle.plan_model.specs.Sent.{SentFrame}
use Rattle.du_scheduler.specs.declared.testing.PlanRefusal.{PlanRefusal}
use Rattle.top_call.specs.declared.status.Status.{Status}
use Rattle.top_call.specs.Answers.{Answer, of_document, of_planned}
use Rattle.top_call.specs.Endings.{unplanned_status}
use Rattle.top_call.specs.Run.{Performs}
use Rattle.top_call.proofs.Plans.{planned_as, unplanned_as}

pub read_is : (bytes : List ℕ) (result : Result Document DocFault) (d : Document) → result ≡ Ok d → Answers (document_of bytes) result → document_of bytes ≡ Ok d
read_is bytes result d is answers = subst (Answers (document_of bytes)) is answers

pub performs_planned : (answer : Document → Answer) (bytes : List ℕ) (d : Document) (left : List SentFrame) (p : Plan) (old new : Option (List ℕ)) (before now : ℕ) (status : Status)
    → document_of bytes ≡ Ok d → HasToSend d.config d.plan left p → Performs (answer d) old new before now status
    → Performs (of_document (of_planned answer) (document_of bytes)) old new before now status
performs_planned answer bytes d left p old new before now status is has performs =
    subst (λ (r : _). Performs (of_document (of_planned answer) r) old new before now status) (sym is) (planned_as answer d left p old new before now status has performs)

pub refuses_planned : (answer : Document → Answer) (bytes : List ℕ) (d : Document) (result : Result Plan PlanRefusal) (r : PlanRefusal) (status : Status) (written : Option (List ℕ)) (faults : ℕ)
    → document_of bytes ≡ Ok d → result ≡ Err r → status ≡ unplanned_status d r → Checks d.config d.plan result
    → Performs (of_document (of_planned answer) (document_of bytes)) written written faults faults status
refuses_planned answer bytes d result r status written faults read is status_is checks =
    subst (λ (x : _). Performs (of_document (of_planned answer) x) written written faults faults status) (sym read) (unplanned_as answer d result r status written faults is status_is checks)
