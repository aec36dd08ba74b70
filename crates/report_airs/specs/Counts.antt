-- The count lines of the events of a report (this project's profile): a line for each counter, none for any other event, and the line
-- `end` after them.
use Rattle.std.specs.Prelude.{ℕ, List, [], ◌++◌}
use Rattle.std.specs.List.{flat_map}
use Rattle.air_source.specs.declared.events.Event.{Event}
use Rattle.air_source.specs.declared.events.Event.TheVariants.{Cell, Delay, Arrival, Count}
use Rattle.air_source.specs.UnitLines.{count_text}
use Rattle.report_airs.specs.Text.{end_text}

-- the line of an event: a counter has one at every value, 0 too, and no other event has one
abbrev pub counter_text : Event → List ℕ
counter_text (Cell c) = []
counter_text (Delay at side id value) = []
counter_text (Arrival side at frame) = []
counter_text (Count side counter value) = count_text side counter value

-- the lines of some events
abbrev pub counts_text : List Event → List ℕ
counts_text events = flat_map counter_text events

-- the count lines of some events, and `end`
abbrev pub whole_counts : List Event → List ℕ
whole_counts events = counts_text events ++ end_text
