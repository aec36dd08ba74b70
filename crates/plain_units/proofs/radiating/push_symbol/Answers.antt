use Rattle.std.proofs.Common.{◌++◌, Bool, List, ap, ◌∙◌}
use Rattle.std.specs.Prelude.{filter}
use Rattle.unit_model.specs.Radiated.{known_of}
use Rattle.plain_units.specs.ClaimedStarts.{is_claimed_way}
use Rattle.unit_model.specs.Starts.{cells_at}
use Rattle.unit_model.specs.declared.allocations.Allocation.{Allocation}
use Rattle.plain_units.proofs.RadiatedLaws.{cells_in}
use Rattle.plain_units.proofs.radiating.push_symbol.Goals as goal

pub returns : goal.returns
returns c =
    let m = c.args.m.now in
    let xs = c.args.accepted.now in
    let told = λ (claimed : List Allocation). c.args.cells.now ++ cells_at c.args.side (known_of claimed c.args.timely.now) m in
    c.in_ok-push_cells.ensures
    ∙ ap told (c.as_slice.ensures.value ∙ c.in_ok-claimed.ensures ∙ ap (λ (down : Bool). filter (is_claimed_way m.ep down m.slot m.symbol) xs) c.is_down.ensures)
    ∙ ap (λ ys. c.args.cells.now ++ ys) (cells_in c.args.side xs c.args.timely.now m)
