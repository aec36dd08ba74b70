-- The events of frames that arrive at a unit: each frame, followed by the delays that it makes known (this project's profile).
use Rattle.std.specs.Prelude.{ℤ, List, [], ◌∷◌, ◌++◌, map}
use Rattle.air_source.specs.declared.events.Event.{Event}
use Rattle.air_source.specs.declared.events.Event.TheVariants as event
use Rattle.air_source.specs.declared.events.Side.{Side}
use Rattle.unit_model.specs.Meetings.{Arrival}
use Rattle.unit_model.specs.declared.results.DelayResult.{DelayResult}

-- a frame that arrives
abbrev pub arrival_event : Side → Arrival → Event
arrival_event side a = event.Arrival side (record { 0 = a.at }) a.frame

-- a delay that the frame of this time makes known
abbrev pub result_event : Side → ℤ → DelayResult → Event
result_event side at r = event.Delay (record { 0 = at }) side r.id r.value

-- what is told of an arrival: it, followed by the results of the measurements that it ends
abbrev pub arrival_told : Side → Arrival → List DelayResult → List Event
arrival_told side a results = arrival_event side a ∷ map (result_event side a.at) results

-- frames that arrive one after the other, each with its results; those beyond the results have none
unfoldable pub arrivals_told : Side → List (List DelayResult) → List Arrival → List Event
arrivals_told side results [] = []
arrivals_told side [] (a ∷ xs) = arrival_told side a [] ++ arrivals_told side [] xs
arrivals_told side (r ∷ results) (a ∷ xs) = arrival_told side a r ++ arrivals_told side results xs
