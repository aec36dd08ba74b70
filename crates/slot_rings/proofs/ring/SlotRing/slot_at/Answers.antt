use Rattle.std.proofs.Common.{◌≡◌, ◌<◌, length, ◌∙◌, sym, subst, true}
use Rattle.slot_rings.specs.Rings.{RingValue, has_slot, place_index}
use Rattle.slot_rings.proofs.SeenLemmas.{if_some}
use Rattle.slot_rings.proofs.RingLemmas.{own_at}
use Rattle.slot_rings.proofs.ring.SlotRing.slot_at.Goals as goal

abbrev fields : goal.After-slot → RingValue
fields c = record { endpoint = c.self.inside.endpoint; places = c.self.inside.places.items }

within : (c : goal.After-slot) → c.args.index < length c.self.inside.places.items
within c = subst (λ (r : RingValue). c.args.index < length r.places) (sym c.self.view_is) c.requires

pub returns-clause-has : goal.returns-clause-has
returns-clause-has c = if_some c.slot.result (λ s is.
    subst (λ (r : RingValue). has_slot r s ≡ true) c.self.view_is
    (own_at (fields c) c.args.index c.index.result.now s c.self.invariant.0 (within c) c.index.ensures (sym c.slot.ensures ∙ is)).0)

pub returns-clause-index : goal.returns-clause-index
returns-clause-index c = if_some c.slot.result (λ s is.
    subst (λ (r : RingValue). place_index r s ≡ c.args.index) c.self.view_is
    (own_at (fields c) c.args.index c.index.result.now s c.self.invariant.0 (within c) c.index.ensures (sym c.slot.ensures ∙ is)).1)
