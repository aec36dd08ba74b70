use Rattle.std.proofs.Common.{arith, Some, sym, ap, ◌∙◌}
use Rattle.std.proofs.lemmas.Option.{slice_get-get_or}
use Rattle.plan_model.specs.declared.lines.PlannedLine.{PlannedLine}
use Rattle.schedule_laws.proofs.PlannedLemmas.{line_here, no_line}
use Rattle.du_scheduler.proofs.plans.Plan.line.Goals as goal

pub returns-then-k-len : goal.returns-then-k-len
returns-then-k-len c cf lines left h = line_here cf lines c.args.self.now.lines.items c.args.k c.index.result.now h.valid h.lines_are
    (slice_get-get_or c.args.self.now.lines.items c.args.k _ (omega (arith, c.if-k-len.true, c.len.ensures)) ∙ ap (λ (p : PlannedLine). Some p) (sym c.index.ensures))

pub returns-else-k-len : goal.returns-else-k-len
returns-else-k-len c cf lines left h = no_line cf lines c.args.self.now.lines.items c.args.k h.valid h.lines_are (omega (arith, c.if-k-len.false, c.len.ensures))
