use Rattle.std.proofs.Common.{ℕ, List, arith, map, refl, subst, sym, ◌∙◌}
use Rattle.air_source.specs.declared.events.AirCell.{AirCell}
use Rattle.air_source.specs.declared.events.Event.TheVariants.{Cell as Reported}
use Rattle.unit_symbols.specs.DueSymbols.{CountsTold}
use Rattle.unit_symbols.specs.Tellings.{lent_below}
use Rattle.unit_symbols.proofs.ReportLemmas.{counts_more, counts_zero, heard_more, heard_none, none_before, none_behind, stops_there}
use Rattle.unit_symbols.proofs.reporting.tell_cells.Goals as goal

pub loop-prb-init : goal.loop-prb-init
loop-prb-init g c =
    let empty = none_before c.args.cells.now c.args.m.now c.requires.span c.requires.unused c.min-first.result
    (omega (arith, c.min-first.ensures)) (omega (arith, c.min-first.ensures)) in
    record {
      heard = heard_none g.A.Air.grew c.args.cells.now c.args.m.now c.min-first.result c.args.air.now empty (g.met.A.Air.grew_none c.args.air.now);
      counts = counts_zero (lent_below c.args.cells.now c.args.m.now c.min-first.result) c.args.counters.now empty;
      same = g.met.A.Air.same_none c.args.air.now;
      still = refl;
    }

pub loop-prb-preserved : goal.loop-prb-preserved
loop-prb-preserved g c = record {
  heard = heard_more g.A.Air.grew c.args.cells.now c.args.m.now g.met.A.Air.grew_more c.loop-prb.prb c.args.air.now c.loop-prb.air c.tell_cell.new.air
      c.loop-prb.invariant.heard c.in-Ok.ensures.heard;
  counts = counts_more c.args.cells.now c.args.m.now c.loop-prb.prb c.args.counters.now c.loop-prb.counters c.tell_cell.new.counters
      c.loop-prb.invariant.counts c.in-Ok.ensures.counts;
  same = g.met.A.Air.same_more c.args.air.now c.loop-prb.air c.tell_cell.new.air c.loop-prb.invariant.same c.tell_cell.ensures.same;
  still = c.in-Ok.ensures.cause ∙ c.loop-prb.invariant.still;
}

pub returns-in-Err-clause-counts : goal.returns-in-Err-clause-counts
returns-in-Err-clause-counts g c =
    subst (λ (counts : List ℕ). CountsTold (lent_below c.args.cells.now c.args.m.now c.loop-prb.prb) c.args.counters.now counts) (sym c.in-Err.ensures.stop.counts) c.loop-prb.invariant.counts

pub returns-in-Err-clause-stop : goal.returns-in-Err-clause-stop
returns-in-Err-clause-stop g c =
    stops_there g.A.Air.grew c.args.cells.now c.args.m.now (g.A.Air.stopped c.in-Err.fault) c.loop-prb.prb c.loop-prb.counters c.tell_cell.new.counters
    c.args.air.now c.loop-prb.air c.tell_cell.new.air (omega (arith, c.loop-prb-test.true, c.requires.span)) c.loop-prb.invariant.heard c.in-Err.ensures.stop

pub returns-clause-heard : goal.returns-clause-heard
returns-clause-heard g c =
    let reached = c.loop-prb.auto.prb-end (omega (arith, c.min-first.ensures)) in
    subst (λ (told : List AirCell). g.A.Air.grew c.args.air.now (map Reported told) c.loop-prb.air)
    (none_behind c.args.cells.now c.args.m.now c.requires.span c.requires.unused c.loop-prb.prb (omega (arith, c.loop-prb-test.false)) (omega (arith, reached, c.requires.span)))
    c.loop-prb.invariant.heard

pub returns-clause-counts : goal.returns-clause-counts
returns-clause-counts g c =
    let reached = c.loop-prb.auto.prb-end (omega (arith, c.min-first.ensures)) in
    subst (λ (told : List AirCell). CountsTold told c.args.counters.now c.loop-prb.counters)
    (none_behind c.args.cells.now c.args.m.now c.requires.span c.requires.unused c.loop-prb.prb (omega (arith, c.loop-prb-test.false)) (omega (arith, reached, c.requires.span)))
    c.loop-prb.invariant.counts
