use Rattle.std.proofs.Common.{ℕ, ◌≡◌, ◌∙◌, ap, arith, sym, true, get_or, ◌+◌}
use Rattle.fh_base.specs.Lists.{some}
use Rattle.slot_rings.specs.Places.{PlaceValue, cell_number, claims_seen, is_reported, claim_in, no_claims, is_due}
use Rattle.slot_rings.specs.Rings.{RingValue}
use Rattle.slot_rings.proofs.SeenLemmas.{due_seen}
use Rattle.slot_rings.proofs.SpanLemmas.{none_due}
use Rattle.slot_rings.proofs.ring.SlotRing.has_due.Goals as goal

pub returns : goal.returns
returns c ep = c.any_due.ensures
    ∙ ap (λ (r : RingValue). some 0 r.endpoint.prbs (λ n. is_due (claim_in (get_or c.claims.result.now (c.number-base.result + n) no_claims)) (is_reported c.claims.result.now (c.number-base.result + n)))) c.self.view_is
    ∙ due_seen c.args.self.now c.args.slot c.args.symbol c.number-base.result ep c.claims.result.now c.number-base.ensures.value
    (c.claims.ensures ∙ ap (λ (p : PlaceValue). claims_seen p c.args.slot true) c.place-place.ensures.value)

pub any_due-requires-clause-outside : goal.any_due-requires-clause-outside
any_due-requires-clause-outside c n low outside =
    let prbs : c.place-place.result.now.prbs ≡ c.self.inside.endpoint.prbs = c.place-place.ensures.prbs ∙ ap (λ (r : RingValue). r.endpoint.prbs) (sym c.self.view_is) in
    none_due c.place-place.result.now.prbs c.args.symbol c.number-base.result n c.claims.result.now (claims_seen c.place-place.result.now c.args.slot true)
    (is_reported c.claims.result.now (c.number-base.result + n))
    (c.number-base.ensures.value ∙ ap (λ (k : ℕ). cell_number k c.args.symbol 0) (sym c.place-place.ensures.prbs)) c.claims.ensures
    (λ re below. c.span.ensures.none n re (omega (arith, low, prbs)) outside below)
