use Rattle.std.proofs.Common.{map, take, ◌≡◌}
use Rattle.air_source.specs.declared.events.Event.TheVariants.{Cell}
use Rattle.text_tests.proofs.telling.tell_cells.Given as goal

abbrev pub invariant-loop-cell : goal.invariant-loop-cell
invariant-loop-cell g l = record {
  heard : g.A.Air.grew l.initial.air (map Cell (take l.cell-index l.cells)) l.air;
  same : g.A.Air.same l.initial.air l.air;
  still : g.A.Air.faults l.air ≡ g.A.Air.faults l.initial.air;
}
