-- The first entry has the earliest time.
use Rattle.std.proofs.Common.{◌<ℤ◌, ◌∙◌, ap, subst, List, All, is_some}
use Rattle.frame_ways.specs.declared.arrivals.Arrival.{Arrival}
use Rattle.frame_ways.specs.Network.{next_of}
use Rattle.frame_ways.proofs.Held.{all_later, first_due, int_later}
use Rattle.frame_ways.proofs.in_flight.Network.has_due.Goals as goal

pub returns-in-Some-clause-due : goal.returns-in-Some-clause-due
returns-in-Some-clause-due c =
    c.le.ensures
    ∙ first_due c.self.inside.next c.args.to.0 c.in-Some.turn.now c.in-Some.field-0-1.now c.self.inside.held.entries c.self.invariant c.in-Some.ensures.first
    ∙ ap (λ (xs : List Arrival). is_some (next_of c.args.to.0 xs)) c.self.view_is

pub returns-in-Some-clause-none : goal.returns-in-Some-clause-none
returns-in-Some-clause-none c = λ not_due.
    let to = c.args.to.0 in
    let turn = c.in-Some.turn.now in
    subst (λ (xs : List Arrival). All (λ a. to <ℤ a.at.0) xs) c.self.view_is
    (all_later c.self.inside.next to turn c.self.inside.held.entries c.self.invariant c.in-Some.ensures.all_from
    (int_later turn.place.at.0 to c.le.result c.le.ensures not_due))
