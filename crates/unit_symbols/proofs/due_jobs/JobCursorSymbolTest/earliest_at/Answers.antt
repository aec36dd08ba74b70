use Rattle.unit_symbols.specs.Searches.{InPlace}
use Rattle.unit_symbols.proofs.LeftLemmas.{fits_since, none_in_place}
use Rattle.unit_symbols.proofs.due_jobs.JobCursorSymbolTest.earliest_at.Goals as goal

pub returns-then-has_uplink_at : goal.returns-then-has_uplink_at
returns-then-has_uplink_at c = fits_since c.args.cells.now c.args.self.now (InPlace c.args.cells.now c.args.ep c.args.index)

pub returns-else-has_uplink_at : goal.returns-else-has_uplink_at
returns-else-has_uplink_at c = none_in_place c.args.cells.now c.args.self.now c.args.ep c.args.index (λ slot at. rw c.ring.ensures.ring (c.has_uplink_at.ensures c.if-has_uplink_at.false slot (rw c.ring.ensures.ring at at)))
