use Rattle.std.proofs.Common.{◌++◌}
use Rattle.bench_units.specs.Cells.{first_cells, units_of}
use Rattle.bench_units.proofs.Following.{may_add, more_cells}
use Rattle.bench_units.proofs.cells.adding.add_unit.Goals as goal

pub add-requires : goal.add-requires
add-requires c = may_add _ c.args.unit c.args.count c.loop-k.k c.cell.result c.cell.ensures c.requires.units c.loop-k.invariant

pub loop-k-preserved : goal.loop-k-preserved
loop-k-preserved c =
    more_cells _ c.args.unit c.args.count c.loop-k.k c.cell.result c.cell.ensures
    (c.in_ok-add.ensures.ok (units_of c.args.unit c.args.count ++ first_cells c.loop-k.k) c.loop-k.invariant)
