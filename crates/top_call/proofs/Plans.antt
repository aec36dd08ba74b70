-- A command over a document whose plan was tested.
use Rattle.std.proofs.Common.{◌≡◌, ℕ, List, Option, Result, Err, sym, subst}
use Rattle.std.specs.Prelude.{slice_index}
use Rattle.du_scheduler.specs.Plans.{Checks, HasToSend}
use Rattle.du_scheduler.specs.declared.plans.Plan.{Plan as Schedule}
use Rattle.fh_document.specs.declared.document.Document.{Document}
use Rattle.plan_model.specs.Sent.{SentFrame}
use Rattle.plan_model.specs.declared.refusals.PlanWhy.{PlanWhy}
use Rattle.du_scheduler.specs.declared.testing.PlanRefusal.{PlanRefusal}
use Rattle.du_scheduler.specs.declared.testing.PlanRefusal.TheVariants as refusal
use Rattle.top_call.specs.declared.status.LineWhy.TheVariants.{Plan}
use Rattle.top_call.specs.declared.status.Status.{Status}
use Rattle.top_call.specs.declared.status.Status.TheVariants.{BadDocument}
use Rattle.top_call.specs.Answers.{Answer, of_plan, of_planned}
use Rattle.top_call.specs.Endings.{unplanned_status}
use Rattle.top_call.specs.Run.{Performs}
use Rattle.top_call.proofs.Documents.{refuses, wanting}

-- ---- what is answered

pub planned_as : (answer : Document → Answer) (d : Document) (left : List SentFrame) (p : Schedule) (old new : Option (List ℕ)) (before now : ℕ) (status : Status)
    → HasToSend d.config d.plan left p → Performs (answer d) old new before now status → Performs (of_planned answer d) old new before now status
unfolding of_planned
planned_as answer d left p old new before now status has performs =
    subst (λ (o : Option (ℕ × PlanWhy)). Performs (of_plan answer d o) old new before now status) (sym has.valid) performs

unplanned : (answer : Document → Answer) (d : Document) (r : PlanRefusal) (written : Option (List ℕ)) (faults : ℕ) → Checks d.config d.plan (Err r)
    → Performs (of_planned answer d) written written faults faults (unplanned_status d r)
unfolding of_planned
unplanned answer d (refusal.At index why) written faults is =
    let line = slice_index d.plan_lines index in
    subst (λ (o : Option (ℕ × PlanWhy)). Performs (of_plan answer d o) written written faults faults (BadDocument line (Plan why))) (sym is) (refuses line (Plan why) written faults)
unplanned answer d refusal.NoMemory written faults is = wanting (of_planned answer d) written faults

pub unplanned_as : (answer : Document → Answer) (d : Document) (result : Result Schedule PlanRefusal) (r : PlanRefusal) (status : Status) (written : Option (List ℕ)) (faults : ℕ)
    → result ≡ Err r → status ≡ unplanned_status d r → Checks d.config d.plan result → Performs (of_planned answer d) written written faults faults status
unplanned_as answer d result r status written faults is status_is checks =
    subst (Performs (of_planned answer d) written written faults faults) (sym status_is) (unplanned answer d r written faults (subst (Checks d.config d.plan) is checks))
