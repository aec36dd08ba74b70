use Rattle.du_scheduler.proofs.TableLemmas.{IsFilled}
use Rattle.du_scheduler.proofs.tables.Table.make.Given as goal

abbrev pub invariant-loop-ep : goal.invariant-loop-ep
invariant-loop-ep l = IsFilled l.config l.lines l.ep l.streams.items l.runs.items
