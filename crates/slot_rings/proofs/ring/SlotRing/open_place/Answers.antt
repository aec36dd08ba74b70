use Rattle.std.proofs.Common.{◌+◌, ◌-◌, ◌<◌, arith, refl, ◌∙◌, ap, sym, subst, length}
use Rattle.unit_model.specs.Proper.{IsSlot}
use Rattle.slot_rings.specs.Rings.{RingValue, place_index}
use Rattle.slot_rings.proofs.RingLemmas.{put_opened}
use Rattle.slot_rings.proofs.PendingLemmas.{flagged_put, opened_quiet}
use Rattle.slot_rings.proofs.CountLemmas.{sections_put, sections_most, place_most}
use Rattle.slot_rings.proofs.StartLemmas.{starts_opened}
use Rattle.slot_rings.proofs.ring.SlotRing.open_place.Goals as goal

pub overflow_sub-self : goal.overflow_sub-self
overflow_sub-self c =
    let r : RingValue = record { endpoint = c.self.inside.endpoint; places = c.self.inside.places.items } in
    let within : c.index-index.result < length r.places = subst (λ (x : RingValue). c.index-index.result < length x.places) (sym c.self.view_is) c.index-index.ensures.within in
    omega (
      arith,
      c.sections-before.ensures.value,
      place_most r c.self.inside.sections c.index-index.result c.index_mut-place.result.now c.self.invariant.2 within c.index_mut-place.ensures.value,
    )

pub overflow_add-self : goal.overflow_add-self
overflow_add-self c =
    let r : RingValue = record { endpoint = c.self.inside.endpoint; places = c.self.inside.places.items } in
    omega (arith, c.sections-after.ensures.few, sections_most r c.self.inside.sections c.self.invariant.2 c.self.invariant.0.few)

pub invariant_of-self : goal.invariant_of-self
invariant_of-self c =
    let r : RingValue = record { endpoint = c.self.inside.endpoint; places = c.self.inside.places.items } in
    let within : c.index-index.result < length r.places = subst (λ (x : RingValue). c.index-index.result < length x.places) (sym c.self.view_is) c.index-index.ensures.within in (
      put_opened r c.index-index.result c.index_mut-place.result.now c.open.new.self c.args.slot c.self.invariant.0
          within c.index_mut-place.ensures.value
          (subst (λ (x : RingValue). IsSlot x.endpoint.numerology c.args.slot) (sym c.self.view_is) c.requires)
          (c.index-index.ensures.value ∙ ap (λ (x : RingValue). place_index x c.args.slot) (sym c.self.view_is)) c.open.ensures,
      flagged_put r c.self.inside.pending c.self.inside.pending c.index-index.result c.index_mut-place.result.now c.open.new.self c.self.invariant.1 within c.index_mut-place.ensures.value
          refl (λ j s off. off)
          (λ s off. opened_quiet r.endpoint.prbs s c.args.slot c.index_mut-place.result.now c.open.new.self c.open.ensures),
      sections_put r c.self.inside.sections (c.self.inside.sections - c.sections-before.result + c.sections-after.result) c.index-index.result c.index_mut-place.result.now
          c.open.new.self c.self.invariant.2 within c.index_mut-place.ensures.value
          (omega (arith, c.sections-after.ensures.value, c.sections-after.ensures.few))
          (omega (
            arith,
            c.sections-before.ensures.value,
            c.sections-after.ensures.value,
            place_most r c.self.inside.sections c.index-index.result c.index_mut-place.result.now c.self.invariant.2 within c.index_mut-place.ensures.value,
          )),
      starts_opened r c.self.inside.starts c.index-index.result c.index_mut-place.result.now c.open.new.self c.args.slot c.self.invariant.3 within
          c.index_mut-place.ensures.value c.open.ensures,
    )
