-- PRB by PRB.
use Rattle.std.proofs.Common.{◌≡◌, ◌-◌, List, refl, subst, ap₂, ◌∙◌, arith, rules}
use Rattle.fh_base.specs.Lists.{each}
use Rattle.explain_heard.specs.Runs.{HasPut, StopsPutting}
use Rattle.explain_heard.proofs.PutLemmas.{each_none, each_put, each_stop}
use Rattle.why_lines.specs.Silent.{silent_items_at, silent_line_of, silent_related}
use Rattle.why_lines.specs.declared.items.SilentItem.{SilentItem}
use Rattle.why_lines.proofs.puts.put_symbol.Goals as goal

pub loop-prb-init : goal.loop-prb-init
loop-prb-init g c = record {
  put = each_none silent_related silent_line_of g.W.LineSink.grew c.prbs-prbs.result.first (silent_items_at c.args.commanded.now c.args.cells.now c.args.of.now) c.prbs-prbs.result.first refl c.args.lines.now c.args.out.now;
  same = g.met.W.LineSink.same_none c.args.out.now;
  still = refl;
}

pub loop-prb-preserved : goal.loop-prb-preserved
loop-prb-preserved g c = record {
  put =
      each_put silent_related silent_line_of g.W.LineSink.grew c.prbs-prbs.result.first c.loop-prb.prb (silent_items_at c.args.commanded.now c.args.cells.now c.args.of.now) c.loop-prb.auto.prb
      c.args.lines.now c.loop-prb.lines c.put_prb.new.lines c.args.out.now c.loop-prb.out c.put_prb.new.out c.loop-prb.invariant.put c.in_ok-put_prb.ensures.ok;
  same = g.met.W.LineSink.same_more _ _ _ c.loop-prb.invariant.same c.in_ok-put_prb.ensures.same;
  still = c.in_ok-put_prb.ensures.cause ∙ c.loop-prb.invariant.still;
}

pub returns-in_err-put_prb-clause-stop : goal.returns-in_err-put_prb-clause-stop
returns-in_err-put_prb-clause-stop g c =
    let e = ap₂ (λ first n. each first n (silent_items_at c.args.commanded.now c.args.cells.now c.args.of.now)) c.prbs-prbs.ensures.first c.prbs-prbs.ensures.count in
    let stop = subst (λ (xs : List SilentItem). StopsPutting silent_related silent_line_of g.W.LineSink.grew (g.W.LineSink.stopped c.in_err-put_prb.field-0.0) xs c.args.lines.now c.args.out.now c.put_prb.new.out) e
    (each_stop silent_related silent_line_of g.W.LineSink.grew (g.W.LineSink.stopped c.in_err-put_prb.field-0.0) c.prbs-prbs.result.first c.loop-prb.prb c.prbs-prbs.result.count (silent_items_at c.args.commanded.now c.args.cells.now c.args.of.now) c.loop-prb.auto.prb c.loop-prb-test.true
    c.args.lines.now c.loop-prb.lines c.args.out.now c.loop-prb.out c.put_prb.new.out c.loop-prb.invariant.put c.in_err-put_prb.ensures.stop) in
    search (rules, stop)

pub returns-clause-ok : goal.returns-clause-ok
returns-clause-ok g c =
    let low = c.loop-prb.auto.prb in
    let most = c.loop-prb.auto.prb-end (omega arith) in
    let past = c.loop-prb-test.false in
    let count : c.loop-prb.prb - c.prbs-prbs.result.first ≡ c.prbs-prbs.result.count = omega (arith, low, most, past) in
    let e = ap₂ (λ first n. each first n (silent_items_at c.args.commanded.now c.args.cells.now c.args.of.now)) c.prbs-prbs.ensures.first (count ∙ c.prbs-prbs.ensures.count) in
    subst (λ (xs : List SilentItem). HasPut silent_related silent_line_of g.W.LineSink.grew xs c.args.lines.now c.args.out.now c.loop-prb.lines c.loop-prb.out) e c.loop-prb.invariant.put
