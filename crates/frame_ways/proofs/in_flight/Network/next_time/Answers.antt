-- The first entry has the earliest time.
use Rattle.std.proofs.Common.{◌≤ℤ◌, ◌∙◌, ap, subst, List, All}
use Rattle.frame_ways.specs.declared.arrivals.Arrival.{Arrival}
use Rattle.frame_ways.specs.Network.{first_time}
use Rattle.frame_ways.proofs.Held.{first_time_is, none_earlier}
use Rattle.frame_ways.proofs.in_flight.Network.next_time.Goals as goal

pub returns-in-Some-clause-time : goal.returns-in-Some-clause-time
returns-in-Some-clause-time c =
    first_time_is c.self.inside.next c.in-Some.turn.now c.in-Some.field-0-1.now c.self.inside.held.entries c.self.invariant c.in-Some.ensures.first
    ∙ ap (λ (xs : List Arrival). first_time xs) c.self.view_is

pub returns-in-Some-clause-least : goal.returns-in-Some-clause-least
returns-in-Some-clause-least c =
    let turn = c.in-Some.turn.now in
    subst (λ (xs : List Arrival). All (λ a. turn.place.at.0 ≤ℤ a.at.0) xs) c.self.view_is
    (none_earlier c.self.inside.next turn c.self.inside.held.entries c.self.invariant c.in-Some.ensures.all_from)
