use Rattle.unit_symbols.proofs.SearchLemmas.{NoneBelow}
use Rattle.unit_symbols.proofs.finding.first_in_slot.Given as goal

abbrev pub invariant-loop-symbol : goal.invariant-loop-symbol
invariant-loop-symbol g l = NoneBelow l.cells (g.T.SymbolTest.fits l.test l.cells) l.place.ep l.place.slot l.symbol
