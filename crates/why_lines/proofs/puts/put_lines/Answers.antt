-- Line by line.
use Rattle.std.proofs.Common.{refl, subst, ◌∙◌, rules}
use Rattle.std.specs.List.{flat_map}
use Rattle.plan_model.specs.declared.lines.PlannedLine.{PlannedLine}
use Rattle.explain_records.proofs.NearestLemmas.{take_all}
use Rattle.explain_heard.specs.Runs.{HasPut, StopsPutting}
use Rattle.explain_heard.proofs.PutLemmas.{some_put, some_stop}
use Rattle.explain_heard.proofs.RunLemmas.{put_none}
use Rattle.why_lines.specs.Silent.{silent_items_if, silent_line_of, silent_related}
use Rattle.why_lines.proofs.puts.put_lines.Goals as goal

pub loop-p-init : goal.loop-p-init
loop-p-init g c = record {
  put = put_none silent_related silent_line_of g.W.LineSink.grew c.args.lines.now c.args.out.now;
  same = g.met.W.LineSink.same_none c.args.out.now;
  still = refl;
}

pub loop-p-preserved : goal.loop-p-preserved
loop-p-preserved g c = record {
  put =
      some_put silent_related silent_line_of g.W.LineSink.grew (silent_items_if c.args.kept.now c.args.cells.now c.args.numbers.now) c.args.planned.now c.loop-p.p-index c.p-item.result c.loop-p-test.true
      c.args.lines.now c.loop-p.lines c.put_planned.new.lines c.args.out.now c.loop-p.out c.put_planned.new.out c.loop-p.invariant.put
      (subst (λ (p : PlannedLine). HasPut silent_related silent_line_of g.W.LineSink.grew (silent_items_if c.args.kept.now c.args.cells.now c.args.numbers.now p) c.loop-p.lines c.loop-p.out c.put_planned.new.lines c.put_planned.new.out)
      c.p-item.is c.in_ok-put_planned.ensures.ok);
  same = g.met.W.LineSink.same_more _ _ _ c.loop-p.invariant.same c.in_ok-put_planned.ensures.same;
  still = c.in_ok-put_planned.ensures.cause ∙ c.loop-p.invariant.still;
}

pub returns-in_err-put_planned-clause-stop : goal.returns-in_err-put_planned-clause-stop
returns-in_err-put_planned-clause-stop g c =
    let stop = some_stop silent_related silent_line_of g.W.LineSink.grew (silent_items_if c.args.kept.now c.args.cells.now c.args.numbers.now) (g.W.LineSink.stopped c.in_err-put_planned.field-0.0) c.args.planned.now c.loop-p.p-index c.p-item.result c.loop-p-test.true
    c.args.lines.now c.loop-p.lines c.args.out.now c.loop-p.out c.put_planned.new.out c.loop-p.invariant.put
    (subst (λ (p : PlannedLine). StopsPutting silent_related silent_line_of g.W.LineSink.grew (g.W.LineSink.stopped c.in_err-put_planned.field-0.0) (silent_items_if c.args.kept.now c.args.cells.now c.args.numbers.now p) c.loop-p.lines c.loop-p.out c.put_planned.new.out)
    c.p-item.is c.in_err-put_planned.ensures.stop) in
    search (rules, stop)

pub returns-clause-ok : goal.returns-clause-ok
returns-clause-ok g c =
    subst (λ xs. HasPut silent_related silent_line_of g.W.LineSink.grew (flat_map (silent_items_if c.args.kept.now c.args.cells.now c.args.numbers.now) xs) c.args.lines.now c.args.out.now c.loop-p.lines c.loop-p.out)
    (take_all c.args.planned.now c.loop-p.p-index c.loop-p-test.false) c.loop-p.invariant.put
