use Rattle.std.proofs.Common.{refl}
use Rattle.idle_spans.proofs.TableLemmas.{row_none, row_some}
use Rattle.idle_spans.proofs.row.Row.next.Goals as goal

pub returns-in-None : goal.returns-in-None
returns-in-None c = row_none c.args.self.now c.args.after c.args.min c.start-start.result c.start-start.ensures (c.in-None.ensures.none refl)

pub returns-in-Some : goal.returns-in-Some
returns-in-Some c = row_some c.args.self.now c.args.after c.args.min c.start-start.result c.start-start.ensures c.in-Some.first c.in-Some.len c.span.result c.in-Some.ensures.some c.span.ensures
