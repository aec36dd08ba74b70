use Rattle.std.proofs.Common.{ℕ, ◌≡◌, ◌+◌, ◌∙◌, Bool, ap, arith, get_or, subst, sym}
use Rattle.slot_rings.specs.Places.{PlaceValue, cell_number, claim_in, is_in_use, is_reported, no_claims}
use Rattle.slot_rings.specs.Rows.{IsRow}
use Rattle.slot_rings.specs.declared.rows.Row.{Row}
use Rattle.slot_rings.proofs.ReportedLemmas.{span_here, span_others}
use Rattle.slot_rings.proofs.SpanLemmas.{none_used}
use Rattle.slot_rings.proofs.place.Place.set_used_reported.Goals as goal

pub returns-clause-here : goal.returns-clause-here
returns-clause-here c k below =
    let down : c.self.inside.down.items ≡ c.args.self.now.down = ap (λ (p : PlaceValue). p.down) c.self.view_is in
    let prbs : c.self.inside.prbs ≡ c.args.self.now.prbs = ap (λ (p : PlaceValue). p.prbs) c.self.view_is in
    let row : IsRow c.self.inside.prbs c.self.inside.down.items c.args.symbol c.row_at-row.result =
    subst (λ (r : Row). IsRow c.self.inside.prbs c.self.inside.down.items c.args.symbol r) (sym c.row_at-row.ensures) (c.self.invariant.5.each c.args.symbol) in
    let at : c.args.from ≡ cell_number c.self.inside.prbs c.args.symbol 0 = c.requires.from ∙ ap (λ (n : ℕ). cell_number n c.args.symbol 0) (sym prbs) in
    let uses : ℕ → Bool = λ n. is_in_use (claim_in (get_or c.args.self.now.down n no_claims)) in
    span_here (is_reported c.args.self.now.down) (is_reported c.set_cells_reported.new.self.down) uses c.args.from c.min-first.result c.min-end.result c.args.count
    (omega (arith, c.min-first.ensures)) (omega (arith, c.min-end.ensures)) c.set_cells_reported.ensures.here c.set_cells_reported.ensures.others
    (λ n few outside. ap (λ l. is_in_use (claim_in (get_or l (c.args.from + n) no_claims))) (sym down)
    ∙ none_used c.self.inside.prbs c.args.symbol c.args.from n c.self.inside.down.items at
    (λ re small. c.span_of-span.ensures.none c.self.inside.down.items c.args.symbol n re row (omega (arith, few, c.requires.count, prbs))
    (λ low. let past = outside (omega (arith, low, c.min-first.ensures)) in omega (arith, past, few, c.min-end.ensures)) small)) k below

pub returns-clause-others : goal.returns-clause-others
returns-clause-others c i out =
    let uses : ℕ → Bool = λ n. is_in_use (claim_in (get_or c.args.self.now.down n no_claims)) in
    span_others (is_reported c.args.self.now.down) (is_reported c.set_cells_reported.new.self.down) uses c.args.from c.min-first.result c.min-end.result c.args.count
    (omega (arith, c.min-first.ensures)) (omega (arith, c.min-end.ensures)) c.set_cells_reported.ensures.here c.set_cells_reported.ensures.others i out
