use Rattle.std.proofs.Common.{ℕ, ◌+◌, ◌∙◌, ap, arith, sym, true, get_or, None}
use Rattle.slot_rings.specs.Places.{PlaceValue, blocks_seen, cell_number, claims_seen, no_claims}
use Rattle.slot_rings.proofs.SeenLemmas.{cells_lent}
use Rattle.slot_rings.proofs.SpanLemmas.{none_lent}
use Rattle.slot_rings.proofs.ring.SlotRing.symbol_cells.Goals as goal

pub returns : goal.returns
returns c =
    let place = c.place-place.ensures.value in
    let prbs = c.place-place.ensures.prbs in
    cells_lent c.args.self.now c.args.slot c.args.symbol c.number-base.result
    (record { claims = c.items_from.result; blocks = c.behind.result; span = c.span.result })
    c.claims.result.now c.number-base.ensures.value
    (c.claims.ensures ∙ ap (λ (p : PlaceValue). claims_seen p c.args.slot true) place)
    (λ k. c.items_from.ensures k no_claims)
    (λ k. c.behind.ensures k ∙ c.blocks-2.ensures (c.number-base.result + k)
    ∙ ap (λ (p : PlaceValue). get_or (blocks_seen p c.args.slot) (c.number-base.result + k) None) place)
    (omega (arith, c.span.ensures.within, prbs))
    (λ n below outside. none_lent c.place-place.result.now.prbs c.args.symbol c.number-base.result n c.items_from.result.now c.claims.result.now
    (claims_seen c.place-place.result.now c.args.slot true)
    (c.number-base.ensures.value ∙ ap (λ (k : ℕ). cell_number k c.args.symbol 0) (sym prbs)) c.claims.ensures (c.items_from.ensures n no_claims)
    (λ re small. c.span.ensures.none n re (omega (arith, below, prbs)) outside small))
