-- The events of a replay, in the order of time: at each tick the radio unit's cells, the frames that land at it, the frames that land
-- at the distributed unit, and that unit's cells; each frame is followed by the delays that it makes known; the counters are last (this
-- project's profile).
use Rattle.std.specs.Prelude.{ℕ, ℤ, pos, ◌+ℤ◌, ◌-ℤ◌, ◌==◌, nat_lt, Bool, List, [], ◌∷◌, ◌++◌, map, if◌then◌else◌}
use Rattle.std.specs.List.{flat_map}
use Rattle.std.specs.Int.{int_gap}
use Rattle.air_source.specs.declared.events.AirCell.{AirCell}
use Rattle.air_source.specs.declared.events.Event.{Event}
use Rattle.air_source.specs.declared.events.Event.TheVariants as event
use Rattle.air_source.specs.declared.events.Side.{Side}
use Rattle.air_source.specs.declared.events.Side.TheVariants.{Ru, Du}
use Rattle.fault_counters.specs.Counts.{capped, times}
use Rattle.fault_counters.specs.Names.{all_counters, index_of}
use Rattle.fault_counters.specs.declared.kinds.Counter.{Counter}
use Rattle.window_config.specs.declared.config.Config.{Config}
use Rattle.window_config.specs.declared.delays.Delays.{Delays}
use Rattle.unit_model.specs.Counts.{cells_counted}
use Rattle.unit_model.specs.Events.{arrivals_told}
use Rattle.fh_base.specs.Lists.{each_tick}
use Rattle.unit_model.specs.Radiated.{first_clock, symbol_report, wait_of}
use Rattle.unit_model.specs.Reports.{arrivals_counted}
use Rattle.unit_model.specs.Sweeps.{at_tick}
use Rattle.replay_laws.specs.Moments.{all_arrivals, end_of_time, landing_at}
use Rattle.replay_laws.specs.Traffic.{Traffic, known_at, landings_at, reported_at}

-- the start of the symbols whose cells a unit reports at a tick
abbrev pub start_of : Side → Delays → ℤ → ℤ
start_of Ru d tick = tick
start_of Du d tick = tick -ℤ wait_of Du d

-- the cells that it reports then, by all that lands at it
abbrev pub cells_reported_at : Side → Config → Traffic → ℤ → List AirCell
cells_reported_at side c t tick = at_tick (symbol_report side (known_at side c t.planned (all_arrivals (landings_at side t)))) c.endpoints (start_of side c.delays tick)

abbrev pub arrivals_at : Side → Traffic → ℤ → List Event
arrivals_at side t tick = arrivals_told side (t.results side tick) (landing_at (landings_at side t) tick)

unfoldable pub events_at : Config → Traffic → ℤ → List Event
events_at c t tick =
    map event.Cell (cells_reported_at Ru c t tick) ++ (arrivals_at Ru t tick ++ (arrivals_at Du t tick ++ map event.Cell (cells_reported_at Du c t tick)))

-- those from one tick on and before another
abbrev pub events_between : Config → Traffic → ℤ → ℤ → List Event
events_between c t from to = each_tick from (int_gap from to) (events_at c t)

-- all that a unit counted in a replay, each as often as it happened
abbrev pub all_counted : Side → Config → Traffic → List Counter
all_counted side c t =
    arrivals_counted side c (all_arrivals (landings_at side t)) ++ cells_counted (reported_at side c t.planned (all_arrivals (landings_at side t)) end_of_time)

-- the counters of delay measurement, which no unit counts itself
abbrev pub is_measured : Counter → Bool
is_measured k = nat_lt 28 (index_of k)

-- what a counter counts: one of delay measurement what that counted, any other what the unit did
abbrev pub additions_of : Side → Config → Traffic → Counter → List Counter
additions_of side c t k = if is_measured k then t.counted side else all_counted side c t

-- the value of its counter in the end
unfoldable pub number_of : Side → Config → Traffic → Counter → ℕ
number_of side c t k = capped (times (additions_of side c t k) k)

-- the counters that are not 0
abbrev pub count_event : Side → ℕ → Counter → List Event
count_event side n k = if n == 0 then [] else event.Count side k n ∷ []

unfoldable pub count_events : Side → Config → Traffic → List Event
count_events side c t = flat_map (λ k. count_event side (number_of side c t k) k) all_counters

unfoldable pub events : Config → Traffic → List Event
events c t = events_between c t first_clock (end_of_time +ℤ pos 1) ++ (count_events Ru c t ++ count_events Du c t)
