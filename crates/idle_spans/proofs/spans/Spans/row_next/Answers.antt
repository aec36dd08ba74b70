use Rattle.std.proofs.Common.{subst}
use Rattle.idle_spans.specs.Tables.{RowValue}
use Rattle.idle_spans.specs.Scans.{IsRowNext}
use Rattle.idle_spans.proofs.TableLemmas.{row_read}
use Rattle.idle_spans.proofs.spans.Spans.row_next.Goals as goal

pub returns : goal.returns
returns c = subst (λ (r : RowValue). IsRowNext r c.args.after c.args.min c.next.result)
    (row_read _ c.args.self.now c.args.ep c.index.result.now c.self.view_is c.requires c.index.ensures) c.next.ensures
