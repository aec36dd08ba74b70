-- Symbol by symbol.
use Rattle.std.proofs.Common.{◌-◌, List, refl, subst, ◌∙◌, arith, rules}
use Rattle.fh_base.specs.Lists.{each}
use Rattle.explain_heard.specs.Runs.{HasPut, StopsPutting}
use Rattle.explain_heard.proofs.PutLemmas.{each_none, each_put, each_stop}
use Rattle.why_lines.specs.Silent.{silent_items_of_symbol, silent_line_of, silent_related}
use Rattle.why_lines.specs.declared.items.SilentItem.{SilentItem}
use Rattle.why_lines.proofs.SymbolLemmas.{symbol_is}
use Rattle.why_lines.proofs.puts.put_line.Goals as goal

pub loop-symbol-init : goal.loop-symbol-init
loop-symbol-init g c = record {
  put = each_none silent_related silent_line_of g.W.LineSink.grew c.args.p.now.line.symbol (silent_items_of_symbol c.args.kept.now c.args.cells.now c.args.number c.args.p.now) c.args.p.now.line.symbol refl c.args.lines.now c.args.out.now;
  same = g.met.W.LineSink.same_none c.args.out.now;
  still = refl;
}

pub loop-symbol-preserved : goal.loop-symbol-preserved
loop-symbol-preserved g c =
    let e = symbol_is c.args.kept.now c.args.cells.now c.args.number c.args.p.now c.loop-symbol.symbol c.commanded_in-commanded.result.now c.of_symbol.result.now c.air.result
    c.commanded_in-commanded.ensures c.of_symbol.ensures c.air.ensures.value in
    record {
      put =
          each_put silent_related silent_line_of g.W.LineSink.grew c.args.p.now.line.symbol c.loop-symbol.symbol (silent_items_of_symbol c.args.kept.now c.args.cells.now c.args.number c.args.p.now) c.loop-symbol.auto.symbol
          c.args.lines.now c.loop-symbol.lines c.put_symbol.new.lines c.args.out.now c.loop-symbol.out c.put_symbol.new.out c.loop-symbol.invariant.put
          (subst (λ (xs : List SilentItem). HasPut silent_related silent_line_of g.W.LineSink.grew xs c.loop-symbol.lines c.loop-symbol.out c.put_symbol.new.lines c.put_symbol.new.out) e c.in_ok-put_symbol.ensures.ok);
      same = g.met.W.LineSink.same_more _ _ _ c.loop-symbol.invariant.same c.in_ok-put_symbol.ensures.same;
      still = c.in_ok-put_symbol.ensures.cause ∙ c.loop-symbol.invariant.still;
    }

pub returns-in_err-put_symbol-clause-stop : goal.returns-in_err-put_symbol-clause-stop
returns-in_err-put_symbol-clause-stop g c =
    let e = symbol_is c.args.kept.now c.args.cells.now c.args.number c.args.p.now c.loop-symbol.symbol c.commanded_in-commanded.result.now c.of_symbol.result.now c.air.result
    c.commanded_in-commanded.ensures c.of_symbol.ensures c.air.ensures.value in
    let stop = each_stop silent_related silent_line_of g.W.LineSink.grew (g.W.LineSink.stopped c.in_err-put_symbol.field-0.0) c.args.p.now.line.symbol c.loop-symbol.symbol c.args.p.now.line.count (silent_items_of_symbol c.args.kept.now c.args.cells.now c.args.number c.args.p.now) c.loop-symbol.auto.symbol c.loop-symbol-test.true
    c.args.lines.now c.loop-symbol.lines c.args.out.now c.loop-symbol.out c.put_symbol.new.out c.loop-symbol.invariant.put
    (subst (λ (xs : List SilentItem). StopsPutting silent_related silent_line_of g.W.LineSink.grew (g.W.LineSink.stopped c.in_err-put_symbol.field-0.0) xs c.loop-symbol.lines c.loop-symbol.out c.put_symbol.new.out) e c.in_err-put_symbol.ensures.stop) in
    search (rules, stop)

pub returns-clause-ok : goal.returns-clause-ok
returns-clause-ok g c =
    let low = c.loop-symbol.auto.symbol in
    let most = c.loop-symbol.auto.symbol-end (omega arith) in
    let past = c.loop-symbol-test.false in
    subst (λ n. HasPut silent_related silent_line_of g.W.LineSink.grew (each c.args.p.now.line.symbol n (silent_items_of_symbol c.args.kept.now c.args.cells.now c.args.number c.args.p.now)) c.args.lines.now c.args.out.now c.loop-symbol.lines c.loop-symbol.out)
    {x = c.loop-symbol.symbol - c.args.p.now.line.symbol} {y = c.args.p.now.line.count} (omega (arith, low, most, past)) c.loop-symbol.invariant.put
