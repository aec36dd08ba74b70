use Rattle.std.proofs.Common.{◌≡◌, ◌++◌}
use Rattle.fh_base.specs.Lists.{each}
use Rattle.unit_model.specs.Radiated.{known_of}
use Rattle.unit_model.specs.Starts.{cell_told}
use Rattle.plain_units.proofs.radiating.push_cells.Given as goal

abbrev pub invariant-loop-prb : goal.invariant-loop-prb
invariant-loop-prb l = l.cells ≡ l.initial.cells ++ each 0 l.prb (cell_told l.side (known_of l.claimed l.timely) l.m)
