use Rattle.unit_model.specs.declared.symbol_start.SymbolStart.{SymbolStart}
use Rattle.unit_cells.specs.Cells.{cells_index}
use Rattle.unit_symbols.specs.Searches.{InPlace}
use Rattle.unit_symbols.specs.Symbols.{OfEndpoint}
use Rattle.unit_symbols.proofs.SearchLemmas.{searched_below_more}
use Rattle.unit_symbols.proofs.finding.first_in_places.Goals as goal

pub loop-index-preserved : goal.loop-index-preserved
loop-index-preserved g c =
    searched_below_more c.args.cells.now (g.T.SymbolTest.fits c.args.test.now c.args.cells.now) (OfEndpoint c.args.ep) (InPlace c.args.cells.now c.args.ep c.loop-index.index)
    (λ (m : SymbolStart). cells_index c.args.cells.now c.args.ep m.slot) c.loop-index.index c.args.best.now c.loop-index.best c.first_in_place.new.best
    (λ m p e. (p, e)) c.loop-index.invariant c.first_in_place.ensures
