use Rattle.unit_cells.specs.Steps.{SetsReported}
use Rattle.unit_cells.proofs.RingsLemmas.{in_ring, still_rings}
use Rattle.unit_cells.proofs.cells.UnitCells.set_reported.Goals as goal

pub invariant_of-self : goal.invariant_of-self
invariant_of-self c =
    still_rings c.self.inside.side c.self.inside.delays c.self.inside.rings.items c.args.self.now c.args.ep c.requires.cells.endpoint c.args.slot c.index_mut.result.now c.set_used_reported.new.ring
    c.self.view_is c.requires.cells.at c.index_mut.ensures.value c.set_used_reported.ensures.touches c.self.invariant

pub returns : goal.returns
returns c =
    in_ring (SetsReported c.args.slot c.args.symbol c.args.count) c.self.inside.side c.self.inside.delays c.self.inside.rings.items c.args.self.now c.args.ep c.requires.cells.endpoint
    c.index_mut.result.now c.set_used_reported.new.ring c.self.view_is c.requires.cells.at c.index_mut.ensures.value c.set_used_reported.ensures
