use Rattle.std.proofs.Common.{◌≡◌, ◌∙◌, ap, sym, Option}
use Rattle.slot_rings.specs.Rings.{RingValue, place_index}
use Rattle.unit_cells.specs.Cells.{index_from}
use Rattle.unit_symbols.specs.Searches.{InPlace}
use Rattle.unit_symbols.proofs.DueSearch.{due_fits}
use Rattle.unit_symbols.proofs.due_symbols.LeftAfterSymbolTest.earliest_at.Goals as goal

pub returns : goal.returns
returns c =
    let r = c.ring.result.now in
    due_fits c.args.cells.now c.args.self.now.after.0 c.args.ep r (λ slot. place_index r slot ≡ c.args.index) (InPlace c.args.cells.now c.args.ep c.args.index) c.earliest_at.result
    c.ring.ensures.ring (λ m of. (of.0, ap (λ (o : Option RingValue). index_from o m.slot) (sym c.ring.ensures.ring) ∙ of.1)) c.earliest_at.ensures
