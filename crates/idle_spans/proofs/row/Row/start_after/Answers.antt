use Rattle.std.proofs.Common.{rules, subst, ap, ◌≤◌, ◌↔◌, ◌+◌, ◌*◌, ℕ}
use Rattle.idle_spans.specs.Symbols.{ComesAfter}
use Rattle.idle_spans.specs.Tables.{RowValue, IsRow, row_symbol}
use Rattle.idle_spans.proofs.NumberLemmas.{told_so}
use Rattle.idle_spans.proofs.OrderLemmas.{before_all, behind_all, among_all}
use Rattle.idle_spans.proofs.row.Row.start_after.Goals as goal

pub returns-then-is_before : goal.returns-then-is_before
returns-then-is_before c k below = before_all c.args.self.now c.args.place k (told_so _ _ c.if-is_before.true c.is_before.ensures)

pub returns-then-is_behind : goal.returns-then-is_behind
returns-then-is_behind c k below = behind_all c.args.self.now c.args.place k c.len.result (subst (λ (r : RowValue). IsRow r) c.self.view_is c.self.invariant) below (search rules) (told_so _ _ c.if-is_behind.true c.is_behind.ensures)

pub returns : goal.returns
returns c k below =
    subst (λ (r : RowValue). (c.frames_between.result * c.frame_symbols-each.result + c.min.result ≤ k) ↔ ComesAfter r.endpoint.numerology c.args.place (row_symbol r k)) c.self.view_is
    (among_all (record { endpoint = c.self.inside.endpoint; first = c.self.inside.first; last = c.self.inside.last; marks = c.self.inside.marks.items }) c.args.place k c.frames_between.result c.frame_symbols-each.result c.number_in_frame-number.result _
    c.frames_between.ensures.value c.frame_symbols-each.ensures.value c.number_in_frame-number.ensures.value
    (ap (λ (x : ℕ). c.frames_between.result * c.frame_symbols-each.result + x) c.min.ensures))
