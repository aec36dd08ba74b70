use Rattle.unit_symbols.proofs.LeftLemmas.{left_at_start}
use Rattle.unit_symbols.proofs.due_jobs.JobCursorSymbolTest.does_fit.Goals as goal

pub returns : goal.returns
returns c =
    left_at_start c.args.cells.now c.args.self.now c.args.place.now.ep c.args.place.now.ring.now.endpoint c.args.place.now.slot c.args.m.now.symbol c.args.uplink.now c.args.m.now
    c.has_left.result c.requires.lookup c.requires.is c.has_left.ensures
