-- Nothing follows the end of time: once all up to it is told, no cell is due and no message is to be given, however late.
use Rattle.std.specs.Prelude.{◌≡◌, ℤ, pos, ◌≤ℤ◌, List, [], All}
use Rattle.air_source.specs.declared.events.Side.{Side}
use Rattle.window_config.specs.Configs.{IsConfig}
use Rattle.window_config.specs.declared.config.Config.{Config}
use Rattle.window_config.specs.declared.plan.TheConstants.{LAST_FRAME}
use Rattle.unit_model.specs.Meetings.{Arrival}
use Rattle.unit_model.specs.Reports.{accepted_of, du_reported}
use Rattle.unit_model.specs.Standing.{due, still_given}
use Rattle.unit_model.specs.Times.{end_of_time}
use Rattle.unit_model.specs.Uplink.{jobs}
use Rattle.unit_model.specs.declared.allocations.Allocation.{Allocation}
use Rattle.window_config.specs.Limits.{IsWithinLimits}
use Rattle.replay_laws.specs.Moments.{all_arrivals}
use Rattle.replay_laws.specs.Passing.{AreLandings}
use Rattle.replay_laws.specs.Traffic.{known_at, reported_at}

-- these name slots of frames that a plan may name
abbrev pub AreInPlan : List Allocation → Type 0
AreInPlan planned = All (λ a. a.slot.frame ≤ℤ pos LAST_FRAME) planned

-- what the distributed unit reports of them up to the end of time is all that it ever reports
abbrev pub PlannedCellsEnd : Type 0
PlannedCellsEnd =
    (c : Config) (planned : List Allocation) (arrivals : List Arrival) (to : ℤ) → IsWithinLimits c.delays → AreInPlan planned → end_of_time ≤ℤ to
    → du_reported c planned arrivals to ≡ du_reported c planned arrivals end_of_time

-- so once a unit has reported all cells up to the end of time, none is due up to any time
abbrev pub NoCellIsLeft : Type 0
NoCellIsLeft =
    (side : Side) (c : Config) (planned : List Allocation) (landings : List Arrival) (to : ℤ) → IsConfig c → AreInPlan planned → AreLandings landings
    → due side c.delays c.endpoints (known_at side c planned (all_arrivals landings)) (reported_at side c planned (all_arrivals landings) end_of_time) to ≡ []

-- and once the radio unit has given all messages up to it, none is left
abbrev pub NoMessageIsLeft : Type 0
NoMessageIsLeft =
    (c : Config) (landings : List Arrival) (to : ℤ) → IsConfig c → AreLandings landings
    → still_given c (accepted_of c (all_arrivals landings)) (jobs c.endpoints (accepted_of c (all_arrivals landings)) end_of_time) to ≡ []
