use Rattle.std.proofs.Common.{length}
use Rattle.idle_spans.specs.Scans.{row_silent}
use Rattle.idle_spans.proofs.RunLemmas.{none_left}
use Rattle.idle_spans.proofs.row.Row.run_from.Goals as goal

pub returns-clause-none : goal.returns-clause-none
returns-clause-none c is = none_left (row_silent c.args.self.now) (length c.args.self.now.marks) c.args.min c.args.start c.loop-first.from c.loop-first.invariant.none (c.in_default.ensures.none is)
