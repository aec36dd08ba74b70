use Rattle.std.proofs.Common.{◌≡◌, List, ◌∙◌, subst}
use Rattle.std.specs.Prelude.{IfOk}
use Rattle.unit_model.specs.Terms.{AirCell}
use Rattle.plain_units.proofs.RadiatedLaws.{reported_by}
use Rattle.plain_units.proofs.radiating.reported.Goals as goal

pub returns : goal.returns
returns c =
    subst (λ (xs : List AirCell). IfOk c.cells_of.result (λ (cells : List AirCell). cells ≡ xs))
    (reported_by c.args.side c.args.delays.now c.args.endpoints.now c.args.accepted.now c.args.timely.now c.args.to.0 c.is_down.result c.wait_of-wait.result.0
    c.sweep_from-from.result.0 c.sweep_end-end.result.0 c.as_slice.result.now c.is_down.ensures c.wait_of-wait.ensures.value c.sweep_from-from.ensures c.sweep_end-end.ensures
    (c.as_slice.ensures.value ∙ c.in_ok-starts.ensures))
    c.cells_of.ensures
