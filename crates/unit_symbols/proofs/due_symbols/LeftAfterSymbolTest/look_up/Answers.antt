use Rattle.std.proofs.Common.{sym, ◌∙◌}
use Rattle.unit_cells.proofs.RingsLemmas.{ring_at}
use Rattle.unit_symbols.proofs.DueSearch.{none_past}
use Rattle.unit_symbols.proofs.due_symbols.LeftAfterSymbolTest.look_up.Goals as goal

pub returns-then-is_past-clause-none : goal.returns-then-is_past-clause-none
returns-then-is_past-clause-none c =
    let past = rw c.endpoint.ensures at c.is_past.ensures in
    none_past c.args.cells.now c.args.self.now.after.0 c.args.place.now.ep c.args.place.now.ring.now.endpoint c.args.place.now.slot
    (ring_at c.args.cells.now c.args.place.now.ep c.args.place.now.ring.now c.requires.there)
    (sym past ∙ c.if-is_past.true)
