use Rattle.std.proofs.Common.{◌<◌}
use Rattle.unit_cells.specs.Cells.{cells_index}
use Rattle.unit_symbols.specs.Searches.{Searched}
use Rattle.unit_symbols.specs.Symbols.{OfEndpoint}
use Rattle.unit_symbols.proofs.finding.first_in_places.Given as goal

abbrev pub invariant-loop-index : goal.invariant-loop-index
invariant-loop-index g l = Searched l.cells (g.T.SymbolTest.fits l.test l.cells) (λ m. OfEndpoint l.ep m × (cells_index l.cells l.ep m.slot < l.index)) l.initial.best l.best
