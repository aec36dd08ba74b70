use Rattle.unit_cells.specs.Steps.{Takes}
use Rattle.unit_cells.proofs.RingsLemmas.{in_ring, still_rings}
use Rattle.unit_cells.proofs.cells.UnitCells.take.Goals as goal

pub invariant_of-self : goal.invariant_of-self
invariant_of-self c =
    still_rings c.self.inside.side c.self.inside.delays c.self.inside.rings.items c.args.self.now c.args.a.now.ep c.args.a.now.endpoint c.args.a.now.slot c.index_mut.result.now c.take.new.ring
    c.self.view_is c.requires.at c.index_mut.ensures.value c.take.ensures.claims.touches c.self.invariant

pub returns-clause-taken : goal.returns-clause-taken
returns-clause-taken c =
    in_ring (Takes c.args.a.now c.take.result) c.self.inside.side c.self.inside.delays c.self.inside.rings.items c.args.self.now c.args.a.now.ep c.args.a.now.endpoint c.index_mut.result.now
    c.take.new.ring c.self.view_is c.requires.at c.index_mut.ensures.value c.take.ensures
