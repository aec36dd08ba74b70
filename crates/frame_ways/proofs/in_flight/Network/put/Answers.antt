-- The insertion by turns is `put_in` on the arrivals, and the turns stay those of their arrivals.
use Rattle.std.proofs.Common.{◌≡◌, ◌+◌, ◌∙◌, ap, sym, subst, ℕ, List}
use Rattle.std.specs.BTreeMap.{insert_entry}
use Rattle.frame_ways.specs.declared.arrivals.Arrival.{Arrival}
use Rattle.frame_ways.specs.declared.places.Place.{Place}
use Rattle.frame_ways.specs.declared.places.Turn.{Turn}
use Rattle.frame_ways.specs.Network.{put_in}
use Rattle.frame_ways.specs.Places.{turn_cmp}
use Rattle.frame_ways.specs.Held.{AreHeld}
use Rattle.frame_ways.proofs.Held.{arrivals-insert_entry, AreHeld-insert_entry, turn_at, arrivals}
use Rattle.frame_ways.proofs.in_flight.Network.put.Goals as goal

pub invariant_of-self : goal.invariant_of-self
invariant_of-self c =
    let n = c.self.inside.next in
    let es = c.self.inside.held.entries in
    let a = c.args.arrival in
    let entries : c.insert.new.self.entries ≡ insert_entry turn_cmp es (turn_at n a) a =
    c.in-Ok.ensures.entries ∙ ap (λ (p : Place). insert_entry turn_cmp es (record { place = p; serial = n }) a) c.place_of.ensures in
    subst (λ (m : ℕ). AreHeld m c.insert.new.self.entries) (sym c.in-Some.ensures.1)
    (subst (λ (xs : List (Turn × Arrival)). AreHeld (n + 1) xs) (sym entries) (AreHeld-insert_entry n a es c.self.invariant))

pub returns-in-Ok-clause-ok : goal.returns-in-Ok-clause-ok
returns-in-Ok-clause-ok c =
    let n = c.self.inside.next in
    let es = c.self.inside.held.entries in
    let a = c.args.arrival in
    let entries : c.insert.new.self.entries ≡ insert_entry turn_cmp es (turn_at n a) a =
    c.in-Ok.ensures.entries ∙ ap (λ (p : Place). insert_entry turn_cmp es (record { place = p; serial = n }) a) c.place_of.ensures in
    ap arrivals entries ∙ arrivals-insert_entry n a es c.self.invariant ∙ ap (λ (xs : List Arrival). put_in a xs) c.self.view_is
