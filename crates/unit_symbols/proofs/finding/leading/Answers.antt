use Rattle.unit_symbols.proofs.finding.leading.Goals as goal

pub loop-ep-preserved : goal.loop-ep-preserved
loop-ep-preserved g c = c.next_lead-lead.ensures c.args.cells.now (g.T.SymbolTest.fits c.args.test.now c.args.cells.now) c.loop-ep.invariant c.earliest.ensures
