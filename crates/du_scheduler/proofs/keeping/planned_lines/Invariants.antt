use Rattle.schedule_laws.proofs.PlannedLemmas.{Goes}
use Rattle.du_scheduler.proofs.keeping.planned_lines.Given as goal

abbrev pub invariant-loop-index : goal.invariant-loop-index
invariant-loop-index l = Goes l.endpoints l.index l.lines l.all.items
