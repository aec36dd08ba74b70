use Rattle.std.proofs.Common.{List, ap, subst, ◌∙◌}
use Rattle.fh_base.proofs.Progress.{front_none}
use Rattle.fh_base.proofs.OwedTelling.{anyhow}
use Rattle.plan_model.specs.Lines.{planned}
use Rattle.plan_model.specs.declared.lines.PlannedLine.{PlannedLine}
use Rattle.du_scheduler.specs.Tables.{IsTable}
use Rattle.window_config.specs.declared.endpoints.EndpointConfig.{EndpointConfig}
use Rattle.document_texts.proofs.listing.tell_plan.Goals as goal

pub returns-in_err-lines-clause-front : goal.returns-in_err-lines-clause-front
returns-in_err-lines-clause-front g c = anyhow c.from_residual.result (front_none _ _)

pub returns-in_err-table-clause-front : goal.returns-in_err-table-clause-front
returns-in_err-table-clause-front g c = anyhow c.from_residual-in_err-table.result (front_none _ _)

pub returns-in_err-deliveries-clause-front : goal.returns-in_err-deliveries-clause-front
returns-in_err-deliveries-clause-front g c = anyhow c.from_residual-in_err-deliveries.result (front_none _ _)

pub tell_frames-requires-clause-table : goal.tell_frames-requires-clause-table
tell_frames-requires-clause-table g c =
    let d = c.args.document.now in
    let lines = c.deref.ensures.value ∙ c.in_ok-lines.ensures ∙ ap (λ (es : List EndpointConfig). planned es d.plan) c.as_slice.ensures.items in
    subst (λ (ps : List PlannedLine). IsTable d.config ps c.in_ok-table.table) lines c.in_ok-table.ensures.table
