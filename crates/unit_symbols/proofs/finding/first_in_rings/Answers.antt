use Rattle.std.proofs.Common.{◌≤◌}
use Rattle.unit_model.specs.declared.symbol_start.SymbolStart.{SymbolStart}
use Rattle.unit_symbols.specs.Symbols.{OfEndpoint}
use Rattle.unit_symbols.proofs.SearchLemmas.{searched_below_more}
use Rattle.unit_symbols.proofs.finding.first_in_rings.Goals as goal

pub loop-ep-preserved : goal.loop-ep-preserved
loop-ep-preserved g c =
    searched_below_more c.args.cells.now (g.T.SymbolTest.fits c.args.test.now c.args.cells.now) (λ m. c.args.from ≤ m.ep) (OfEndpoint c.loop-ep.ep) (λ (m : SymbolStart). m.ep)
    c.loop-ep.ep c.args.best.now c.loop-ep.best c.first_in_ring.new.best (λ m p e. e) c.loop-ep.invariant c.first_in_ring.ensures
