use Rattle.std.proofs.Common.{◌≡◌, List, ap, sym, subst, ◌∙◌}
use Rattle.document_traffic.specs.Sending.{lines_of}
use Rattle.du_intake.specs.Planned.{IsPlanOf}
use Rattle.plan_model.specs.Lines.{planned}
use Rattle.plan_model.specs.declared.lines.PlannedLine.{PlannedLine}
use Rattle.window_config.specs.declared.endpoints.EndpointConfig.{EndpointConfig}
use Rattle.fronthaul_replay.proofs.LawLemmas.{is_plan}
use Rattle.fronthaul_replay.proofs.replaying.intake_of.Goals as goal

pub make-requires-clause-plan : goal.make-requires-clause-plan
make-requires-clause-plan c =
    let d = c.args.document.now in
    let are : c.in_ok-lines.lines.items ≡ lines_of d =
    c.in_ok-lines.ensures ∙ ap (λ (es : List EndpointConfig). planned es d.plan) c.as_slice.ensures.items in
    subst (λ (ls : List PlannedLine). IsPlanOf d.config ls) (sym (c.as_slice-2.ensures.value ∙ are)) (is_plan d c.requires)
