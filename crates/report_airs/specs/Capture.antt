-- The capture of the events of a replay (this project's profile): the magic, and a record for each arrival.
use Rattle.std.specs.Prelude.{ℕ, List, [], ◌∷◌}
use Rattle.std.specs.List.{flat_map}
use Rattle.air_source.specs.declared.events.Event.{Event}
use Rattle.air_source.specs.declared.events.Event.TheVariants.{Cell, Delay, Arrival, Count}
use Rattle.capture_records.specs.Records.{Arrived, record_bytes, capture_bytes}

-- an arrival by its parts
abbrev pub arrived : Event → List Arrived
arrived (Arrival side at frame) = record { side = side; at = at; frame = frame } ∷ []
arrived (Cell c) = []
arrived (Delay at side id value) = []
arrived (Count side counter value) = []

-- the arrivals among some events, in order
abbrev pub arrivals_in : List Event → List Arrived
arrivals_in events = flat_map arrived events

-- the capture of some events
abbrev pub whole_capture : List Event → List ℕ
whole_capture events = capture_bytes (arrivals_in events)

-- the bytes that an event gives: an arrival has a record, and nothing else has one
abbrev pub event_record : Event → List ℕ
event_record (Arrival side at frame) = record_bytes (record { side = side; at = at; frame = frame })
event_record (Cell c) = []
event_record (Delay at side id value) = []
event_record (Count side counter value) = []

-- the bytes that some events give
abbrev pub events_records : List Event → List ℕ
events_records events = flat_map event_record events
