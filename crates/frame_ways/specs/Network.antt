-- The order of the frames in flight: this project's profile of a replay.
use Rattle.std.specs.Prelude.{◌≡◌, ℤ, Bool, true, false, List, [], ◌∷◌, All, Option, Some, None, if◌then◌else◌, int_lt}
use Rattle.std.specs.Ordering.{nat_cmp, int_cmp, bool_cmp, on, then_cmp, is_lt}
use Rattle.std.specs.declared.cmp.Ordering.{Ordering}
use Rattle.air_source.specs.declared.events.Side.{Side}
use Rattle.air_source.specs.declared.events.Side.TheVariants.{Ru, Du}
use Rattle.fh_base.specs.declared.values.Ticks.{Ticks}
use Rattle.frame_ways.specs.declared.arrivals.Arrival.{Arrival}
use Rattle.frame_ways.specs.declared.arrivals.ArrivalKey.{ArrivalKey}

-- whether a frame is received at the distributed unit
abbrev pub is_to_du : Side → Bool
is_to_du Ru = false
is_to_du Du = true

-- frames that were sent first, then by their places, then by their copies
abbrev pub key_cmp : ArrivalKey → ArrivalKey → Ordering
key_cmp = then_cmp (on (λ k. k.injected) bool_cmp)
    (then_cmp (on (λ k. k.place) nat_cmp)
    (on (λ k. k.copy) nat_cmp))

-- by time, then those to the radio unit first, then by their keys
abbrev pub arrival_cmp : Arrival → Arrival → Ordering
arrival_cmp = then_cmp (on (λ a. a.at.0) int_cmp)
    (then_cmp (on (λ a. is_to_du a.side) bool_cmp)
    (on (λ a. a.key) key_cmp))

-- whether the first is after the second
abbrev pub is_after : Arrival → Arrival → Bool
is_after a b = is_lt (arrival_cmp b a)

-- the list with one more arrival, after all that are not after it
abbrev pub put_in : Arrival → List Arrival → List Arrival
put_in a [] = a ∷ []
put_in a (b ∷ bs) = if is_after b a then a ∷ b ∷ bs else b ∷ put_in a bs

-- the first arrival, if it is not after a time
abbrev pub next_of : ℤ → List Arrival → Option Arrival
next_of to [] = None
next_of to (a ∷ rest) = if int_lt to a.at.0 then None else Some a

-- the time of the first arrival, if there is one
abbrev pub first_time : List Arrival → Option Ticks
first_time [] = None
first_time (a ∷ rest) = Some a.at

-- none is after one that follows it
abbrev pub IsInOrder : List Arrival → Type 0
IsInOrder [] = Unit {0}
IsInOrder (a ∷ rest) = All (λ b. is_after a b ≡ false) rest × IsInOrder rest
