use Rattle.unit_symbols.specs.Symbols.{OfEndpoint}
use Rattle.unit_symbols.proofs.DueSearch.{due_fits}
use Rattle.unit_symbols.proofs.due_symbols.LeftAfterSymbolTest.earliest.Goals as goal

pub returns : goal.returns
returns c =
    due_fits c.args.cells.now c.args.self.now.after.0 c.args.ep c.ring.result.now (λ slot. Unit {0}) (OfEndpoint c.args.ep) c.earliest.result c.ring.ensures.ring
    (λ m of. (of, tt)) c.earliest.ensures
