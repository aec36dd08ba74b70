use Rattle.schedule_laws.proofs.PlacedLemmas.{Follows}
use Rattle.du_scheduler.proofs.placing.place_lines.Given as goal

abbrev pub invariant-loop-index : goal.invariant-loop-index
invariant-loop-index l = Follows l.endpoints l.index l.lines l.placed.items
