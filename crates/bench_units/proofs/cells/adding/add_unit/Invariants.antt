use Rattle.std.proofs.Common.{◌++◌}
use Rattle.shared_cell.specs.Combined.{Stands}
use Rattle.bench_units.specs.Cells.{first_cells, units_of}
use Rattle.bench_units.proofs.cells.adding.add_unit.Given as goal

abbrev pub invariant-loop-k : goal.invariant-loop-k
invariant-loop-k l = Stands l.mixer (units_of l.unit l.count ++ first_cells l.k)
