use Rattle.unit_symbols.specs.Searches.{IsLead}
use Rattle.unit_symbols.proofs.finding.leading.Given as goal

abbrev pub invariant-loop-ep : goal.invariant-loop-ep
invariant-loop-ep g l = IsLead l.cells (g.T.SymbolTest.fits l.test l.cells) l.ep l.lead
