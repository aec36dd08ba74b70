use Rattle.std.proofs.Common.{subst, ap, ◌∙◌, ◌≡◌, ◌+◌, ◌*◌, ℕ, eqb, false}
use Rattle.idle_spans.specs.Silence.{same_symbol}
use Rattle.idle_spans.specs.Symbols.{frame_symbols, number_in_frame}
use Rattle.idle_spans.specs.Tables.{RowValue, IsRow, row_symbol}
use Rattle.idle_spans.proofs.NumberLemmas.{told_not, told_so}
use Rattle.idle_spans.proofs.SameLemmas.{found_at, improper_at, outside_at, index_seen}
use Rattle.idle_spans.proofs.row.Row.index.Goals as goal

abbrev fields : goal.After-number_in_frame → RowValue
fields c = record { endpoint = c.self.inside.endpoint; first = c.self.inside.first; last = c.self.inside.last; marks = c.self.inside.marks.items }

number_is : (c : goal.After-number_in_frame) → c.frames_between-frames.result * c.frame_symbols.result + c.number_in_frame.result
    ≡ c.frames_between-frames.result * frame_symbols c.self.inside.endpoint.numerology + number_in_frame c.self.inside.endpoint.numerology c.args.place
number_is c =
    ap (λ (x : ℕ). c.frames_between-frames.result * x + c.number_in_frame.result) c.frame_symbols.ensures.value
    ∙ ap (λ (x : ℕ). c.frames_between-frames.result * frame_symbols c.self.inside.endpoint.numerology + x) c.number_in_frame.ensures.value

pub returns-then-not-has_frame-clause-place : goal.returns-then-not-has_frame-clause-place
returns-then-not-has_frame-clause-place c k below = outside_at c.args.self.now k c.args.place (subst (λ (r : RowValue). IsRow r) c.self.view_is c.self.invariant) below
    (told_not _ _ c.if-not-has_frame.true c.has_frame.ensures)

pub returns-then-not-is_symbol-clause-place : goal.returns-then-not-is_symbol-clause-place
returns-then-not-is_symbol-clause-place c k below =
    subst (λ (r : RowValue). same_symbol c.args.place.slot c.args.place.symbol (row_symbol r k) ≡ false) c.self.view_is
    (improper_at c.self.inside.endpoint.numerology c.self.inside.first k c.args.place (told_not _ _ c.if-not-is_symbol.true c.is_symbol.ensures))

pub returns-clause-within : goal.returns-clause-within
returns-clause-within c =
    let proper = told_so _ _ c.if-not-is_symbol.false c.is_symbol.ensures in
    let inside = told_so _ _ c.if-not-has_frame.false c.has_frame.ensures in
    index_seen (fields c) c.args.self.now c.frames_between-frames.result _ c.args.place c.self.view_is c.self.invariant proper c.frames_between-frames.ensures.value inside.1 (number_is c)

pub returns-clause-place : goal.returns-clause-place
returns-clause-place c k below =
    subst (λ (r : RowValue). same_symbol c.args.place.slot c.args.place.symbol (row_symbol r k) ≡ eqb (c.frames_between-frames.result * c.frame_symbols.result + c.number_in_frame.result) k) c.self.view_is
    (found_at c.self.inside.endpoint.numerology c.self.inside.first c.frames_between-frames.result _ k c.args.place
    (told_so _ _ c.if-not-is_symbol.false c.is_symbol.ensures) c.frames_between-frames.ensures.value (number_is c))
