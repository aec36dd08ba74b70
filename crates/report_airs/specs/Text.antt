-- The text of the events of a report (this project's profile): a line for each, none for an arrival, and the line `end` after them.
use Rattle.std.specs.Prelude.{ℕ, List, [], ◌++◌, codes}
use Rattle.std.specs.List.{flat_map}
use Rattle.air_source.specs.declared.events.Event.{Event}
use Rattle.air_source.specs.declared.events.Event.TheVariants.{Cell, Delay, Arrival, Count}
use Rattle.air_source.specs.CellLines.{cell_text}
use Rattle.air_source.specs.UnitLines.{delay_text, count_text}

-- the line of an event: a counter has one at every value, 0 too, and an arrival has none
abbrev pub event_text : Event → List ℕ
event_text (Cell c) = cell_text c
event_text (Delay at side id value) = delay_text at.0 side id value
event_text (Arrival side at frame) = []
event_text (Count side counter value) = count_text side counter value

-- the lines of some events
abbrev pub events_text : List Event → List ℕ
events_text events = flat_map event_text events

-- the last line
abbrev pub end_text : List ℕ
end_text = codes "end\n"

-- the whole text of some events
abbrev pub whole_text : List Event → List ℕ
whole_text events = events_text events ++ end_text
