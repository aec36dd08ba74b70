use Rattle.std.proofs.Common.{◌≡◌, List, ap, sym, ◌∙◌}
use Rattle.std.specs.List.{list_any}
use Rattle.plan_model.specs.Lines.{planned}
use Rattle.plan_model.specs.declared.lines.PlannedLine.{PlannedLine}
use Rattle.schedule_laws.specs.Touched.{is_touching}
use Rattle.schedule_laws.proofs.TouchLemmas.{touch_found, touch_told}
use Rattle.du_scheduler.proofs.plans.Plan.touches.Goals as goal

pub returns : goal.returns
returns c cf lines left h =
    let is : c.are_touching.result ≡ list_any (is_touching c.args.ep c.args.slot) (planned cf.endpoints lines) =
    c.are_touching.ensures ∙ ap (λ (ps : List PlannedLine). list_any (is_touching c.args.ep c.args.slot) ps) (c.deref.ensures.value ∙ h.lines_are) in
    (λ told. touch_told cf lines c.args.ep c.args.slot h.config h.fit h.valid (sym is ∙ told), λ found. is ∙ touch_found c.args.ep c.args.slot (planned cf.endpoints lines) found)
