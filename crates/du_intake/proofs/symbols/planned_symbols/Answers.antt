-- Listed, and sorted.
use Rattle.std.proofs.Common.{sym, subst}
use Rattle.du_intake.specs.Listing.{AreInTurn}
use Rattle.du_intake.proofs.ListingLemmas.{are_in_turn}
use Rattle.du_intake.proofs.symbols.planned_symbols.Goals as goal

pub returns : goal.returns
returns c =
    subst (AreInTurn c.args.endpoints.now c.args.lines.now) (sym c.shrink_to_fit.ensures.items)
    (are_in_turn c.args.endpoints.now c.args.lines.now c.in_ok-symbols.symbols.items c.sort_by_start.new.symbols.items c.in_ok-symbols.ensures c.in_ok-sort_by_start.ensures.order
    c.sort_by_start.ensures.stable)
