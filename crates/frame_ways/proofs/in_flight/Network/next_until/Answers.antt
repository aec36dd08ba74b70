-- The first entry's arrival is not after the others.
use Rattle.std.proofs.Common.{subst, ◌∷◌, List}
use Rattle.frame_ways.specs.declared.arrivals.Arrival.{Arrival}
use Rattle.frame_ways.specs.declared.places.Turn.{Turn}
use Rattle.frame_ways.specs.Held.{AreHeld}
use Rattle.frame_ways.proofs.Held.{none_before}
use Rattle.frame_ways.proofs.in_flight.Network.next_until.Goals as goal
use Rattle.frame_ways.proofs.in_flight.Network.next_until.Goals.{in-None, in-Some}

pub returns-clause-least : goal.returns-clause-least
returns-clause-least c =
    elim c.match-pop_first.branch [
      | in-None w ↦ rw w.result-is tt
      | in-Some w ↦
          let n = c.self.inside.next in
          let es = c.pop_first.new.self.entries in
          let held : AreHeld n ((w.in-Some.field-0-0, w.in-Some.arrival) ∷ es) =
          subst (λ (xs : List (Turn × Arrival)). AreHeld n xs) w.in-Some.ensures.removal c.self.invariant in
          rw w.result-is (none_before n (w.in-Some.field-0-0, w.in-Some.arrival) es held.0 held.2 w.in-Some.ensures.all_above)
    ]
