use Rattle.std.proofs.Common.{◌<◌, ◌≤◌, List, map, subst, sym, arith}
use Rattle.std.proofs.lemmas.Result.{IfErr-weaker, on_ok_weaker}
use Rattle.air_source.specs.declared.events.AirCell.{AirCell}
use Rattle.air_source.specs.declared.events.Event.TheVariants.{Cell as Reported}
use Rattle.window_config.specs.declared.endpoints.EndpointConfig.{EndpointConfig}
use Rattle.unit_cells.proofs.KeepLemmas.{ring_endpoint}
use Rattle.unit_symbols.specs.DueSymbols.{CountsTold, ReportsTold}
use Rattle.unit_symbols.proofs.ReportedLemmas.{used_reported}
use Rattle.unit_symbols.proofs.ReportLemmas.{all_below, all_left, left_below, ok_then, stops_at}
use Rattle.unit_symbols.proofs.reporting.report.Goals as goal
use Rattle.unit_symbols.proofs.reporting.report.Given.{Over}
use Rattle.unit_symbols.proofs.reporting.report.Goals.{After-set_used_reported}

pub set_used_reported-requires-clause-cells : goal.set_used_reported-requires-clause-cells
set_used_reported-requires-clause-cells g c = record {
  endpoint = c.args.m.now.endpoint;
  at = c.requires.at;
  slot_is = c.requires.slot_is;
  symbol_is = c.requires.symbol_is;
  prbs = omega (arith, c.tell_cells-told.ensures.within);
}

pub tell_cells-told-requires-clause-span : goal.tell_cells-told-requires-clause-span
tell_cells-told-requires-clause-span g c =
    subst (λ (e : EndpointConfig). c.symbol_cells-lent.result.span.end ≤ e.prbs)
    (ring_endpoint c.args.cells.now c.args.m.now.ep c.args.m.now.endpoint c.ring.result.now c.requires.at c.ring.ensures.ring) c.symbol_cells-lent.ensures.within

pub tell_cells-told-requires-clause-unused : goal.tell_cells-told-requires-clause-unused
tell_cells-told-requires-clause-unused g c prb below outside =
    c.symbol_cells-lent.ensures.unused prb
    (subst (λ (e : EndpointConfig). prb < e.prbs)
    (sym (ring_endpoint c.args.cells.now c.args.m.now.ep c.args.m.now.endpoint c.ring.result.now c.requires.at c.ring.ensures.ring)) below) outside

-- those that the air heard are set as reported
was_reported : (g : Over) (c : After-set_used_reported g) → ReportsTold c.args.m.now (left_below c.args.cells.now c.args.m.now c.tell_cells-told.result.prbs) c.args.cells.now c.set_used_reported.new.self
was_reported g c = record {
  reports = used_reported c.args.m.now c.tell_cells-told.result.prbs c.args.cells.now c.set_used_reported.new.self c.set_used_reported.ensures.here c.set_used_reported.ensures.others;
  keeps = c.set_used_reported.ensures.keeps;
  known = c.set_used_reported.ensures.known;
  side = c.set_used_reported.ensures.side;
  delays = c.set_used_reported.ensures.delays;
  endpoints = c.set_used_reported.ensures.endpoints;
}

pub returns-clause-heard : goal.returns-clause-heard
returns-clause-heard g c =
    ok_then c.tell_cells-told.result.answer c.tell_cells-told.ensures.all c.tell_cells-told.ensures.heard (λ all heard.
    subst (λ (told : List AirCell). g.A.Air.grew c.args.air.now (map Reported told) c.tell_cells-told.new.air)
    (all_left c.args.cells.now c.args.m.now c.ring.result.now c.ring.ensures.ring c.symbol_cells-lent.result c.symbol_cells-lent.ensures c.tell_cells-told.result.prbs all) heard)

pub returns-clause-reports : goal.returns-clause-reports
returns-clause-reports g c =
    on_ok_weaker c.tell_cells-told.result.answer (λ all.
    subst (λ (told : List AirCell). ReportsTold c.args.m.now told c.args.cells.now c.set_used_reported.new.self)
    (all_below c.args.cells.now c.args.m.now c.tell_cells-told.result.prbs all) (was_reported g c)) c.tell_cells-told.ensures.all

pub returns-clause-counts : goal.returns-clause-counts
returns-clause-counts g c =
    on_ok_weaker c.tell_cells-told.result.answer (λ all.
    subst (λ (told : List AirCell). CountsTold told c.args.counters.now c.tell_cells-told.new.counters)
    (all_left c.args.cells.now c.args.m.now c.ring.result.now c.ring.ensures.ring c.symbol_cells-lent.result c.symbol_cells-lent.ensures c.tell_cells-told.result.prbs all) c.tell_cells-told.ensures.counts)
    c.tell_cells-told.ensures.all

pub returns-clause-stop : goal.returns-clause-stop
returns-clause-stop g c =
    IfErr-weaker c.tell_cells-told.result.answer _ _ (λ f stop.
    stops_at c.args.cells.now c.args.m.now c.ring.result.now c.ring.ensures.ring c.symbol_cells-lent.result c.symbol_cells-lent.ensures g.A.Air.grew (g.A.Air.stopped f) c.tell_cells-told.result.prbs
    c.set_used_reported.new.self c.args.counters.now c.tell_cells-told.new.counters c.args.air.now c.tell_cells-told.new.air (was_reported g c) c.tell_cells-told.ensures.counts stop)
    c.tell_cells-told.ensures.stop
