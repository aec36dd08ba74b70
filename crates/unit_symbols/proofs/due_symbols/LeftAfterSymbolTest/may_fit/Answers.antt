use Rattle.std.proofs.Common.{◌∙◌}
use Rattle.unit_symbols.specs.Places.{start_in}
use Rattle.unit_symbols.proofs.DueSearch.{left_is, not_used}
use Rattle.unit_symbols.proofs.due_symbols.LeftAfterSymbolTest.may_fit.Goals as goal

pub returns : goal.returns
returns c off =
    let p = c.args.place.now in
    let m = start_in p c.args.symbol in
    not_used c.args.cells.now c.args.self.now.after.0 m
    (left_is c.args.cells.now p.ring.now m c.requires.place.there ∙ c.is_pending.ensures off p.slot c.requires.place.index_is c.requires.place.has p.ep)
