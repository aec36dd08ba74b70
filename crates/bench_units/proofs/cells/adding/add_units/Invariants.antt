use Rattle.shared_cell.specs.Combined.{Stands}
use Rattle.bench_units.specs.Cells.{units_of}
use Rattle.bench_units.proofs.cells.adding.add_units.Given as goal

abbrev pub invariant-loop-unit : goal.invariant-loop-unit
invariant-loop-unit l = Stands l.mixer (units_of l.unit l.count)
