use Rattle.std.proofs.Common.{ℕ, ◌+◌, ◌≤◌, List, sym, subst}
use Rattle.plan_model.specs.declared.lines.PlannedLine.{PlannedLine}
use Rattle.schedule_laws.proofs.PlannedLemmas.{Goes, goes_on, goes_all}
use Rattle.du_scheduler.proofs.keeping.planned_lines.Goals as goal

pub loop-index-preserved : goal.loop-index-preserved
loop-index-preserved c =
    subst (λ (ps : List PlannedLine). Goes c.args.endpoints.now (c.loop-index.index + 1) c.args.lines.now ps) (sym c.in_ok-keep.ensures)
    (goes_on c.args.endpoints.now c.loop-index.index c.args.lines.now c.line_at-line.result c.loop-index.all.items c.planned_line.result
    c.loop-index.invariant c.line_at-line.ensures c.planned_line.ensures.value)

pub returns : goal.returns
returns c =
    goes_all c.args.endpoints.now c.loop-index.index c.args.lines.now c.loop-index.all.items c.loop-index.invariant
    (subst (λ (n : ℕ). n ≤ c.loop-index.index) c.len-index-end.ensures c.loop-index-test.false)
