-- What an air heard of one of the units among some events (this project's profile).
use Rattle.std.specs.Prelude.{Bool, if◌then◌else◌, List, [], ◌∷◌}
use Rattle.air_source.specs.Units.{is_down}
use Rattle.air_source.specs.declared.events.AirCell.{AirCell}
use Rattle.air_source.specs.declared.events.Event.{Event}
use Rattle.air_source.specs.declared.events.Event.TheVariants as event
use Rattle.air_source.specs.declared.events.Side.{Side}
use Rattle.unit_model.specs.Claims.{same_way}
use Rattle.unit_model.specs.Meetings.{Arrival}

-- the event is of this unit
abbrev pub is_of : Side → Side → Bool
is_of side other = same_way (is_down other) (is_down side)

-- the frames that arrived at the unit, after earlier ones, the newest first
unfoldable pub arrivals_heard : Side → List Arrival → List Event → List Arrival
arrivals_heard side earlier [] = earlier
arrivals_heard side earlier (event.Arrival at_side at frame ∷ rest) =
    arrivals_heard side (if is_of side at_side then (let a : Arrival = record { at = at.0; frame = frame } in a) ∷ earlier else earlier) rest
arrivals_heard side earlier (event.Cell a ∷ rest) = arrivals_heard side earlier rest
arrivals_heard side earlier (event.Delay at at_side id value ∷ rest) = arrivals_heard side earlier rest
arrivals_heard side earlier (event.Count at_side counter value ∷ rest) = arrivals_heard side earlier rest

-- the cells that the unit reported, in their order
unfoldable pub cells_heard : Side → List Event → List AirCell
cells_heard side [] = []
cells_heard side (event.Cell a ∷ rest) = if is_of side a.side then a ∷ cells_heard side rest else cells_heard side rest
cells_heard side (event.Arrival at_side at frame ∷ rest) = cells_heard side rest
cells_heard side (event.Delay at at_side id value ∷ rest) = cells_heard side rest
cells_heard side (event.Count at_side counter value ∷ rest) = cells_heard side rest
