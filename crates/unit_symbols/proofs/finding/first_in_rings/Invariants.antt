use Rattle.std.proofs.Common.{◌<◌, ◌≤◌}
use Rattle.unit_symbols.specs.Searches.{Searched}
use Rattle.unit_symbols.proofs.finding.first_in_rings.Given as goal

abbrev pub invariant-loop-ep : goal.invariant-loop-ep
invariant-loop-ep g l = Searched l.cells (g.T.SymbolTest.fits l.test l.cells) (λ m. (l.from ≤ m.ep) × (m.ep < l.ep)) l.initial.best l.best
