use Rattle.idle_spans.proofs.TableLemmas.{spans_marked}
use Rattle.idle_spans.proofs.spans.Spans.mark_row.Goals as goal

pub returns-in-Some : goal.returns-in-Some
returns-in-Some c = spans_marked (record { rows = c.self.inside.rows.items }) c.args.self.now c.in-Some.ep c.index_mut.result.now c.mark.new.self c.args.c.now c.self.view_is c.self.invariant c.in-Some.ensures.some.0 c.index_mut.ensures.value c.in-Some.ensures.some.1 c.mark.ensures
