use Rattle.slot_rings.specs.Runs.{packed_samples}
use Rattle.unit_cells.specs.Steps.{Fills}
use Rattle.unit_cells.proofs.RingsLemmas.{in_ring, still_rings}
use Rattle.unit_cells.proofs.cells.UnitCells.fill_cells.Goals as goal

pub invariant_of-self : goal.invariant_of-self
invariant_of-self c =
    still_rings c.self.inside.side c.self.inside.delays c.self.inside.rings.items c.args.self.now c.args.ep c.requires.cells.endpoint c.args.slot c.index_mut.result.now c.fill_run.new.ring
    c.self.view_is c.requires.cells.at c.index_mut.ensures.value c.fill_run.ensures.touches c.self.invariant

pub returns-clause-filled : goal.returns-clause-filled
returns-clause-filled c =
    in_ring (Fills c.args.slot c.args.symbol c.args.first c.args.run.now.id (packed_samples c.args.run.now)) c.self.inside.side c.self.inside.delays c.self.inside.rings.items c.args.self.now c.args.ep c.requires.cells.endpoint
    c.index_mut.result.now c.fill_run.new.ring c.self.view_is c.requires.cells.at c.index_mut.ensures.value c.fill_run.ensures
