use Rattle.std.proofs.Common.{◌<◌, length, ℕ, subst}
use Rattle.std.proofs.lemmas.List.{length-map}
use Rattle.idle_spans.specs.Tables.{RowValue}
use Rattle.idle_spans.proofs.TableLemmas.{spans_next}
use Rattle.idle_spans.proofs.spans.Spans.next.Goals as goal

pub returns : goal.returns
returns c config first last cells stands =
    let below : c.args.ep < length c.args.self.now.rows = subst (λ (x : ℕ). c.args.ep < x) (length-map c.args.self.now.rows (λ (r : RowValue). r.endpoint)) c.requires.ep in
    spans_next c.args.self.now config first last cells c.args.ep c.args.after c.args.min c.row_next.result below stands c.row_next.ensures
