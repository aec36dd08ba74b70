-- What a unit of a shared cell writes of its events, and what is added up of them (this project's profile).
use Rattle.std.specs.Prelude.{ℕ, List, [], ◌∷◌}
use Rattle.std.specs.List.{flat_map}
use Rattle.air_source.specs.declared.events.Event.{Event}
use Rattle.air_source.specs.declared.events.Event.TheVariants.{Cell, Delay, Arrival, Count}
use Rattle.air_source.specs.declared.events.Side.{Side}
use Rattle.air_source.specs.declared.events.Side.TheVariants.{Ru, Du}
use Rattle.air_source.specs.CellLines.{cell_text}
use Rattle.air_source.specs.UnitLines.{count_text}
use Rattle.shared_cell.specs.Joined.{taken}
use Rattle.shared_cell.specs.declared.values.Mixed.{Mixed}

-- a line of the radio unit is written, one of the distributed unit is not
abbrev pub of_radio : Side → List ℕ → List ℕ
of_radio Ru line = line
of_radio Du line = []

-- the line of an event: the radio unit's cells and counters have one
abbrev pub unit_event_text : Event → List ℕ
unit_event_text (Cell c) = of_radio c.side (cell_text c)
unit_event_text (Delay at side id value) = []
unit_event_text (Arrival side at frame) = []
unit_event_text (Count side counter value) = of_radio side (count_text side counter value)

-- the lines of some events
abbrev pub unit_events_text : List Event → List ℕ
unit_events_text events = flat_map unit_event_text events

-- the combined cells after an event: the distributed unit's cells are added up
abbrev pub event_taken : Event → List Mixed → List Mixed
event_taken (Cell c) ms = taken c ms
event_taken (Delay at side id value) ms = ms
event_taken (Arrival side at frame) ms = ms
event_taken (Count side counter value) ms = ms

-- after some events
abbrev pub all_taken : List Event → List Mixed → List Mixed
all_taken [] ms = ms
all_taken (e ∷ events) ms = all_taken events (event_taken e ms)
