-- What a network keeps true of the arrivals that it holds: this project's profile.
use Rattle.std.specs.Prelude.{ℕ, ◌≡◌, ◌<◌, List, [], ◌∷◌, map}
use Rattle.frame_ways.specs.declared.arrivals.Arrival.{Arrival}
use Rattle.frame_ways.specs.declared.places.Turn.{Turn}
use Rattle.frame_ways.specs.declared.in_flight.Network.TheInside.{Inside}
use Rattle.frame_ways.specs.Places.{place_of}

-- each turn is that of its arrival, and the call that put it was before
abbrev pub AreHeld : ℕ → List (Turn × Arrival) → Type 0
AreHeld n [] = Unit {0}
AreHeld n (e ∷ es) = (e.0.place ≡ place_of e.1) × (e.0.serial < n) × AreHeld n es

-- the arrivals in their order
abbrev pub arrivals_of : Inside → List Arrival
arrivals_of n = map (λ e. e.1) n.held.entries

abbrev pub KeepsTurns : Inside → Type 0
KeepsTurns n = AreHeld n.next n.held.entries
