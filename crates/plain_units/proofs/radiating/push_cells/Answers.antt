use Rattle.unit_model.specs.Radiated.{known_of}
use Rattle.unit_model.specs.Starts.{cell_told}
use Rattle.plain_units.proofs.radiating.push_cells.Goals as goal
use Rattle.fh_base.proofs.EachLemmas.{none_yet, one_more}

pub loop-prb-init : goal.loop-prb-init
loop-prb-init c = none_yet c.args.cells.now _

pub loop-prb-preserved : goal.loop-prb-preserved
loop-prb-preserved c =
    one_more c.args.cells.now c.loop-prb.cells c.push_cell.new.cells c.loop-prb.prb (cell_told c.args.side (known_of c.args.claimed.now c.args.timely.now) c.args.m.now)
    c.in_ok-push_cell.ensures c.loop-prb.invariant
