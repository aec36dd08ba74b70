-- The counters of a replay add up (this project's profile).
use Rattle.std.specs.Prelude.{◌≡◌, ℕ, ◌+◌, ◌<◌, ◌^◌, All, Contains, List, length}
use Rattle.air_source.specs.declared.events.Event.{Event}
use Rattle.air_source.specs.declared.events.Event.TheVariants as event
use Rattle.air_source.specs.declared.events.Side.{Side}
use Rattle.fault_counters.specs.Counts.{capped, times}
use Rattle.fault_counters.specs.declared.kinds.Counter.{Counter}
use Rattle.fault_counters.specs.declared.kinds.Counter.TheVariants.{Cells, Missing}
use Rattle.window_config.specs.declared.config.Config.{Config}
use Rattle.unit_model.specs.Reports.{commands_of, data_of}
use Rattle.unit_laws.specs.Totals.{commands_total, data_total}
use Rattle.replay_laws.specs.Events.{additions_of, all_counted, events}
use Rattle.unit_model.specs.Heard.{cells_heard}
use Rattle.replay_laws.specs.Moments.{all_arrivals}
use Rattle.replay_laws.specs.Traffic.{Traffic, landings_at}

abbrev pub cells_total : List Counter → ℕ
cells_total counted = times counted Cells + times counted Missing

-- a number that an event gives for a counter: how often it was counted, or the greatest u64 where that is larger
pub record IsNumber (times_counted value : ℕ) : Type 0 where
  pub value_is : value ≡ capped times_counted
  pub exact : times_counted < 2 ^ 64 → value ≡ times_counted

-- where each counter counted this at each unit
abbrev pub TellsNumber : (Side → Counter → List Counter) → Event → Type 0
TellsNumber counted (event.Cell a) = Unit {0}
TellsNumber counted (event.Delay at side id value) = Unit {0}
TellsNumber counted (event.Arrival side at frame) = Unit {0}
TellsNumber counted (event.Count side k value) = IsNumber (times (counted side k) k) value

-- At a unit each section of a command has one of eight verdicts, each section of data one of four, each reported cell has samples or is
-- missing: so often their counters were counted, all together.
pub record UnitAddsUp (side : Side) (c : Config) (t : Traffic) : Type 0 where
  pub commands : commands_total (all_counted side c t) ≡ length (commands_of side c (all_arrivals (landings_at side t)))
  pub sections : data_total (all_counted side c t) ≡ length (data_of side c (all_arrivals (landings_at side t)))
  pub cells : cells_total (all_counted side c t) ≡ length (cells_heard side (events c t))

-- Each event of a counter gives its number, and each counter that was counted at a unit has its event. The counters of delay
-- measurement count what the traffic says, all others what the unit counts, as those of the sums.
pub record AddsUp (c : Config) (t : Traffic) : Type 0 where
  pub sums : (side : Side) → UnitAddsUp side c t
  pub told : All (TellsNumber (λ side. additions_of side c t)) (events c t)
  pub none_left :
      (side : Side) (k : Counter) → 0 < times (additions_of side c t k) k
      → Contains (events c t) (event.Count side k (capped (times (additions_of side c t k) k)))

-- in every configuration, whatever lands and is planned
abbrev pub SumsAddUp : Type 0
SumsAddUp = (c : Config) (t : Traffic) → AddsUp c t
