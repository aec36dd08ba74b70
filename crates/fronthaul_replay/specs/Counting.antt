-- The numbers that are told of counters in the end (this project's profile).
use Rattle.std.specs.Prelude.{ℕ, List, if◌then◌else◌}
use Rattle.std.specs.List.{flat_map}
use Rattle.air_source.specs.declared.events.Event.{Event}
use Rattle.air_source.specs.declared.events.Side.{Side}
use Rattle.fault_counters.specs.Counts.{capped, count_of, times}
use Rattle.fault_counters.specs.Names.{all_counters}
use Rattle.fault_counters.specs.declared.kinds.Counter.{Counter}
use Rattle.replay_laws.specs.Events.{count_event, is_measured}

-- of a counter of delay measurement by what the meter counted, of any other by the unit's counters
abbrev pub told_number : List ℕ → List Counter → Counter → ℕ
told_number counts measured k = if is_measured k then capped (times measured k) else count_of counts k

-- of each counter that is not at 0, in their order
unfoldable pub told_counts : Side → List ℕ → List Counter → List Event
told_counts side counts measured = flat_map (λ k. count_event side (told_number counts measured k) k) all_counters
