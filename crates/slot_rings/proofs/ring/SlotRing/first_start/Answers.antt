use Rattle.std.proofs.Common.{◌<◌, ◌≡◌, ◌∙◌, ap, get_or, length, subst, sym}
use Rattle.std.proofs.lemmas.List.{get_or_read}
use Rattle.slot_rings.specs.Places.{PlaceValue, blank}
use Rattle.slot_rings.specs.Rings.{RingValue}
use Rattle.slot_rings.specs.Starts.{StartsFrom}
use Rattle.slot_rings.proofs.StartLemmas.{first_starts}
use Rattle.slot_rings.proofs.ring.SlotRing.first_start.Goals as goal

pub returns : goal.returns
returns c =
    let r : RingValue = record { endpoint = c.self.inside.endpoint; places = c.self.inside.places.items } in
    let within : c.args.index < length r.places = subst (λ (x : RingValue). c.args.index < length x.places) (sym c.self.view_is) c.requires in
    let there : c.index.result.now ≡ get_or r.places c.args.index blank = get_or_read r.places c.args.index c.index.result.now within c.index.ensures blank in
    subst (λ (x : RingValue). StartsFrom x (get_or x.places c.args.index blank) c.start_from.result.0) c.self.view_is
    (first_starts r c.self.inside.pending c.args.index c.first_of-symbol.result c.start_from.result.0 c.self.invariant.1 c.first_of-symbol.ensures
    (λ slot s is few later. c.start_from.ensures slot s (c.slot.ensures ∙ ap (λ (p : PlaceValue). p.slot) there ∙ is) few later))
