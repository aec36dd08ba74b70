use Rattle.std.proofs.Common.{◌≡◌, ℕ, true, false, ◌+◌, ◌-◌, ◌<◌, arith, ◌∙◌, ap, sym, subst, length}
use Rattle.window_config.specs.declared.endpoints.EndpointConfig.{EndpointConfig}
use Rattle.slot_rings.specs.Pending.{due_in, flag_at}
use Rattle.unit_model.specs.Claims.{is_from}
use Rattle.slot_rings.specs.Places.{PlaceValue, is_place_of}
use Rattle.slot_rings.specs.Rings.{RingValue, place_index}
use Rattle.slot_rings.proofs.RingLemmas.{put_kept, put_own, read_is, claims_moved}
use Rattle.slot_rings.proofs.PendingLemmas.{flagged_put, claimed_quiet}
use Rattle.slot_rings.proofs.CountLemmas.{sections_put, sections_most, place_most}
use Rattle.slot_rings.proofs.StartLemmas.{starts_claimed}
use Rattle.slot_rings.proofs.ring.SlotRing.claim_place.Goals as goal
use Rattle.fh_base.proofs.Orders.{both_ways as unequal}

pub overflow_sub-self : goal.overflow_sub-self
overflow_sub-self c =
    let r : RingValue = record { endpoint = c.self.inside.endpoint; places = c.self.inside.places.items } in
    let within : c.index-index.result < length r.places = subst (λ (x : RingValue). c.index-index.result < length x.places) (sym c.self.view_is) c.index-index.ensures.within in
    omega (
      arith,
      c.sections-before.ensures.value,
      place_most r c.self.inside.sections c.index-index.result c.index_mut-place.result.now c.self.invariant.2 within c.index_mut-place.ensures.value,
    )

pub overflow_add-self : goal.overflow_add-self
overflow_add-self c =
    let r : RingValue = record { endpoint = c.self.inside.endpoint; places = c.self.inside.places.items } in
    omega (arith, c.sections-after.ensures.few, sections_most r c.self.inside.sections c.self.invariant.2 c.self.invariant.0.few)

pub invariant_of-self : goal.invariant_of-self
invariant_of-self c =
    let r : RingValue = record { endpoint = c.self.inside.endpoint; places = c.self.inside.places.items } in
    let within : c.index-index.result < length r.places = subst (λ (x : RingValue). c.index-index.result < length x.places) (sym c.self.view_is) c.index-index.ensures.within in
    let own : is_place_of c.index_mut-place.result.now.slot c.args.a.now.slot ≡ true =
    ap (λ (p : PlaceValue). is_place_of p.slot c.args.a.now.slot) (read_is r c.args.self.now c.index-index.result c.index_mut-place.result.now c.args.a.now.slot c.self.invariant.0 c.self.view_is c.index-index.ensures.value c.index_mut-place.ensures.value) ∙ c.requires.has in
    let quiet : (s : ℕ) → (c.args.a.now.down ≡ true → c.args.a.now.idle ≡ false → is_from c.args.a.now.symbol c.args.a.now.num_symbol s ≡ true → ⊥)
    → due_in r.endpoint.prbs c.index_mut-place.result.now s ≡ false → due_in r.endpoint.prbs c.claim.new.self s ≡ false =
    λ s. claimed_quiet r.endpoint.prbs c.args.a.now.endpoint.prbs s c.index_mut-place.result.now c.claim.new.self c.args.a.now
    (ap (λ (e : EndpointConfig). e.prbs) c.requires.endpoint ∙ ap (λ (x : RingValue). x.endpoint.prbs) (sym c.self.view_is)) own
    (ap (λ (p : PlaceValue). p.slot) c.claim.ensures.kept) c.claim.ensures.reported c.claim.ensures.claims in (
      put_kept r c.index-index.result c.index_mut-place.result.now c.claim.new.self c.self.invariant.0
          within c.index_mut-place.ensures.value
          (ap (λ (p : PlaceValue). p.slot) c.claim.ensures.kept) (ap (λ (p : PlaceValue). p.prbs) c.claim.ensures.kept),
      flagged_put r c.self.inside.pending c.flag.new.self c.index-index.result c.index_mut-place.result.now c.claim.new.self c.self.invariant.1 within c.index_mut-place.ensures.value
          c.flag.ensures.size c.flag.ensures.kept
          (λ s off. quiet s (λ down radiates is. unequal (flag_at c.flag.new.self c.index-index.result s) (c.flag.ensures.set s down radiates is) off)),
      sections_put r c.self.inside.sections (c.self.inside.sections - c.sections-before.result + c.sections-after.result) c.index-index.result c.index_mut-place.result.now
          c.claim.new.self c.self.invariant.2 within c.index_mut-place.ensures.value
          (omega (arith, c.sections-after.ensures.value, c.sections-after.ensures.few))
          (omega (
            arith,
            c.sections-before.ensures.value,
            c.sections-after.ensures.value,
            place_most r c.self.inside.sections c.index-index.result c.index_mut-place.result.now c.self.invariant.2 within c.index_mut-place.ensures.value,
          )),
      starts_claimed r c.self.inside.starts c.claim-2.new.self c.index-index.result c.index_mut-place.result.now c.claim.new.self c.args.a.now c.self.invariant.3 within
          c.index_mut-place.ensures.value c.claim-2.ensures.size c.claim-2.ensures.lower (ap (λ (p : PlaceValue). p.slot) c.claim.ensures.kept) own c.claim-2.ensures.here quiet,
    )

pub returns-clause-claims : goal.returns-clause-claims
returns-clause-claims c cell re ep at below under =
    let r : RingValue = record { endpoint = c.self.inside.endpoint; places = c.self.inside.places.items } in
    claims_moved c.args.a.now.endpoint.prbs c.args.a.now c.index_mut-place.result.now _ c.claim.new.self _ cell re
    (read_is r c.args.self.now c.index-index.result c.index_mut-place.result.now c.args.a.now.slot c.self.invariant.0 c.self.view_is c.index-index.ensures.value c.index_mut-place.ensures.value)
    (put_own r c.index-index.result c.claim.new.self c.args.a.now.slot c.self.invariant.0
    (c.index-index.ensures.value ∙ ap (λ (x : RingValue). place_index x c.args.a.now.slot) (sym c.self.view_is)))
    (c.claim.ensures.claims cell re ep at below under)
