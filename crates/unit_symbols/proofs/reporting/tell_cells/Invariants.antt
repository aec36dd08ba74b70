use Rattle.std.proofs.Common.{◌≡◌, map}
use Rattle.air_source.specs.declared.events.Event.TheVariants.{Cell as Reported}
use Rattle.unit_symbols.specs.DueSymbols.{CountsTold}
use Rattle.unit_symbols.specs.Tellings.{lent_below}
use Rattle.unit_symbols.proofs.reporting.tell_cells.Given as goal

abbrev pub invariant-loop-prb : goal.invariant-loop-prb
invariant-loop-prb g l = record {
  heard : g.A.Air.grew l.initial.air (map Reported (lent_below l.cells l.m l.prb)) l.air;
  counts : CountsTold (lent_below l.cells l.m l.prb) l.initial.counters l.counters;
  same : g.A.Air.same l.initial.air l.air;
  still : g.A.Air.faults l.air ≡ g.A.Air.faults l.initial.air;
}
