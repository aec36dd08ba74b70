use Rattle.unit_cells.proofs.CallLemmas.{held_is, live_apart}
use Rattle.unit_cells.proofs.RingsLemmas.{ring_at, ring_there}
use Rattle.unit_cells.proofs.cells.UnitCells.ring.Goals as goal

pub returns-clause-ring : goal.returns-clause-ring
returns-clause-ring c = ring_there c.self.inside.side c.self.inside.delays c.self.inside.rings.items c.args.self.now c.args.ep c.index.result.now c.self.view_is c.requires c.index.ensures

pub returns-clause-endpoint : goal.returns-clause-endpoint
returns-clause-endpoint c = ring_at c.args.self.now c.args.ep c.index.result.now (returns-clause-ring c)

pub returns-clause-apart : goal.returns-clause-apart
returns-clause-apart c = live_apart c.args.self.now (held_is c.self.inside.side c.self.inside.delays c.self.inside.rings.items c.args.self.now c.self.view_is c.self.invariant)
