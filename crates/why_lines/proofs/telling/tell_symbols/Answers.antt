-- Symbol by symbol.
use Rattle.std.proofs.Common.{refl, subst, ◌∙◌, rules}
use Rattle.explain_records.proofs.NearestLemmas.{take_all}
use Rattle.why_lines.specs.Unused.{symbol_text_in, symbols_text}
use Rattle.why_lines.proofs.TellLemmas.{grew_next, stops_next}
use Rattle.why_lines.proofs.telling.tell_symbols.Goals as goal

pub loop-start-init : goal.loop-start-init
loop-start-init g c = record {
  heard = g.met.W.LineSink.grew_none c.args.out.now;
  same = g.met.W.LineSink.same_none c.args.out.now;
  still = refl;
}

pub loop-start-preserved : goal.loop-start-preserved
loop-start-preserved g c = record {
  heard =
      grew_next g.W.LineSink.grew g.met.W.LineSink.grew_more (symbol_text_in c.args.kept.now c.args.cells.now c.args.side) c.args.symbols.now c.loop-start.start-index c.start-item.result
      c.loop-start-test.true c.start-item.is c.args.out.now c.loop-start.out c.tell_start.new.out c.loop-start.invariant.heard c.in_ok-tell_start.ensures.heard;
  same = g.met.W.LineSink.same_more _ _ _ c.loop-start.invariant.same c.in_ok-tell_start.ensures.same;
  still = c.in_ok-tell_start.ensures.cause ∙ c.loop-start.invariant.still;
}

pub returns-in_err-tell_start-clause-stop : goal.returns-in_err-tell_start-clause-stop
returns-in_err-tell_start-clause-stop g c =
    let stop = stops_next g.W.LineSink.grew g.met.W.LineSink.grew_more (symbol_text_in c.args.kept.now c.args.cells.now c.args.side) (g.W.LineSink.stopped c.in_err-tell_start.field-0.0) c.args.symbols.now
    c.loop-start.start-index c.start-item.result c.loop-start-test.true c.start-item.is c.args.out.now c.loop-start.out c.tell_start.new.out c.loop-start.invariant.heard c.in_err-tell_start.ensures.stop in
    search (rules, stop)

pub returns-clause-heard : goal.returns-clause-heard
returns-clause-heard g c =
    subst (λ ss. g.W.LineSink.grew c.args.out.now (symbols_text c.args.kept.now c.args.cells.now c.args.side ss) c.loop-start.out)
    (take_all c.args.symbols.now c.loop-start.start-index c.loop-start-test.false) c.loop-start.invariant.heard
