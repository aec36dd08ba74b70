use Rattle.unit_symbols.specs.Symbols.{OfEndpoint}
use Rattle.unit_symbols.proofs.LeftLemmas.{fits_since, none_of_endpoint}
use Rattle.unit_symbols.proofs.due_jobs.JobCursorSymbolTest.earliest.Goals as goal

pub returns-then-has_uplink : goal.returns-then-has_uplink
returns-then-has_uplink c = fits_since c.args.cells.now c.args.self.now (OfEndpoint c.args.ep)

pub returns-else-has_uplink : goal.returns-else-has_uplink
returns-else-has_uplink c = none_of_endpoint c.args.cells.now c.args.self.now c.args.ep (λ slot. rw c.ring.ensures.ring (c.has_uplink.ensures c.if-has_uplink.false slot))
