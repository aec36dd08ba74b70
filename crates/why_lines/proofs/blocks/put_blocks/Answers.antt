-- PRB by PRB.
use Rattle.std.proofs.Common.{◌-◌, refl, subst, ◌∙◌, arith, rules}
use Rattle.fh_base.specs.Lists.{each}
use Rattle.explain_heard.specs.Runs.{HasPut}
use Rattle.explain_heard.proofs.PutLemmas.{each_none, each_put, each_stop}
use Rattle.why_lines.specs.Unused.{unused_line_of, unused_prbs_at, unused_related}
use Rattle.why_lines.proofs.blocks.put_blocks.Goals as goal

pub loop-prb-init : goal.loop-prb-init
loop-prb-init g c = record {
  put = each_none unused_related unused_line_of g.W.LineSink.grew 0 (unused_prbs_at c.args.given.now c.args.cells.now c.args.of.now) 0 refl c.args.lines.now c.args.out.now;
  same = g.met.W.LineSink.same_none c.args.out.now;
  still = refl;
}

pub loop-prb-preserved : goal.loop-prb-preserved
loop-prb-preserved g c = record {
  put =
      each_put unused_related unused_line_of g.W.LineSink.grew 0 c.loop-prb.prb (unused_prbs_at c.args.given.now c.args.cells.now c.args.of.now) (omega arith)
      c.args.lines.now c.loop-prb.lines c.put_block.new.lines c.args.out.now c.loop-prb.out c.put_block.new.out c.loop-prb.invariant.put c.in_ok-put_block.ensures.ok;
  same = g.met.W.LineSink.same_more _ _ _ c.loop-prb.invariant.same c.in_ok-put_block.ensures.same;
  still = c.in_ok-put_block.ensures.cause ∙ c.loop-prb.invariant.still;
}

pub returns-in_err-put_block-clause-stop : goal.returns-in_err-put_block-clause-stop
returns-in_err-put_block-clause-stop g c =
    let lt = c.loop-prb-test.true in
    let stop = each_stop unused_related unused_line_of g.W.LineSink.grew (g.W.LineSink.stopped c.in_err-put_block.field-0.0) 0 c.loop-prb.prb c.args.of.now.start.endpoint.prbs
    (unused_prbs_at c.args.given.now c.args.cells.now c.args.of.now) (omega arith) (omega (arith, lt))
    c.args.lines.now c.loop-prb.lines c.args.out.now c.loop-prb.out c.put_block.new.out c.loop-prb.invariant.put c.in_err-put_block.ensures.stop in
    search (rules, stop)

pub returns-clause-ok : goal.returns-clause-ok
returns-clause-ok g c =
    let most = c.loop-prb.auto.prb-end in
    let past = c.loop-prb-test.false in
    subst (λ n. HasPut unused_related unused_line_of g.W.LineSink.grew (each 0 n (unused_prbs_at c.args.given.now c.args.cells.now c.args.of.now)) c.args.lines.now c.args.out.now c.loop-prb.lines c.loop-prb.out)
    {x = c.loop-prb.prb - 0} {y = c.args.of.now.start.endpoint.prbs} (omega (arith, most, past)) c.loop-prb.invariant.put
