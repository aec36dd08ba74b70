-- What is known of all that a unit read of some arrivals, whose times do not go back, and what that says of slots that are not
-- live yet.
use Rattle.std.specs.Prelude.{◌≡◌, ℕ, ℤ, List, [], All, None}
use Rattle.fh_base.specs.declared.values.Slot.{Slot}
use Rattle.unit_model.specs.Terms.{Side}
use Rattle.window_config.specs.Limits.{IsWithinLimits}
use Rattle.window_config.specs.Rings.{ru_reach_of}
use Rattle.window_config.specs.declared.config.Config.{Config}
use Rattle.window_config.specs.declared.endpoints.EndpointConfig.{EndpointConfig}
use Rattle.unit_model.specs.Meetings.{Arrival}
use Rattle.unit_model.specs.Proper.{IsAt, IsProperCommand, IsProperData, IsTime}
use Rattle.unit_model.specs.Radiated.{symbol_report}
use Rattle.unit_model.specs.Reports.{accepted_of, commands_of, data_of, ru_known}
use Rattle.unit_model.specs.Standing.{AreInTime, uplink_of}
use Rattle.unit_model.specs.Uplink.{symbol_jobs}
use Rattle.unit_model.specs.declared.cells.Cell.{Cell}
use Rattle.unit_laws.specs.Far.{IsFar, IsHeard, IsHeardData}

-- all sections were received by the clock, from endpoints of the configuration
abbrev pub CommandsAreHeard : Type 0
CommandsAreHeard = (side : Side) (c : Config) (clock : ℤ) (arrivals : List Arrival) → AreInTime clock arrivals → All (IsHeard c.endpoints clock) (commands_of side c arrivals)

abbrev pub DataAreHeard : Type 0
DataAreHeard = (side : Side) (c : Config) (clock : ℤ) (arrivals : List Arrival) → AreInTime clock arrivals → All (IsHeardData c.endpoints clock) (data_of side c arrivals)

-- where the times of the arrivals are times that a unit may be given, all sections are proper
abbrev pub CommandsAreProper : Type 0
CommandsAreProper =
    (side : Side) (c : Config) (clock : ℤ) (arrivals : List Arrival) → AreInTime clock arrivals → All (λ a. IsTime a.at) arrivals
    → All (IsProperCommand c.endpoints) (commands_of side c arrivals)

abbrev pub DataAreProper : Type 0
DataAreProper =
    (side : Side) (c : Config) (clock : ℤ) (arrivals : List Arrival) → AreInTime clock arrivals → All (λ a. IsTime a.at) arrivals
    → All (IsProperData c.endpoints) (data_of side c arrivals)

-- so of a slot that is not live yet, the radio unit knows nothing
abbrev pub NoClaimsAhead : Type 0
NoClaimsAhead =
    (c : Config) (clock : ℤ) (arrivals : List Arrival) (e : EndpointConfig) (cell : Cell) (re : ℕ)
    → IsWithinLimits c.delays → AreInTime clock arrivals → IsAt c.endpoints cell.ep e → IsFar e.numerology (ru_reach_of c.delays) clock cell.slot
    → (ru_known c arrivals).claims cell re ≡ None

abbrev pub NoUplinkAhead : Type 0
NoUplinkAhead =
    (c : Config) (clock : ℤ) (arrivals : List Arrival) (e : EndpointConfig) (ep : ℕ) (slot : Slot)
    → IsWithinLimits c.delays → AreInTime clock arrivals → IsAt c.endpoints ep e → IsFar e.numerology (ru_reach_of c.delays) clock slot
    → uplink_of ep slot (accepted_of c arrivals) ≡ []

-- and reports and sends nothing
abbrev pub NoReportsAhead : Type 0
NoReportsAhead =
    (side : Side) (c : Config) (clock : ℤ) (arrivals : List Arrival) (e : EndpointConfig) (ep : ℕ) (slot : Slot) (symbol : ℕ)
    → IsWithinLimits c.delays → AreInTime clock arrivals → IsAt c.endpoints ep e → IsFar e.numerology (ru_reach_of c.delays) clock slot
    → symbol_report side (ru_known c arrivals) ep e slot symbol ≡ []

abbrev pub NoJobsAhead : Type 0
NoJobsAhead =
    (c : Config) (clock : ℤ) (arrivals : List Arrival) (e : EndpointConfig) (ep : ℕ) (slot : Slot) (symbol : ℕ)
    → IsWithinLimits c.delays → AreInTime clock arrivals → IsAt c.endpoints ep e → IsFar e.numerology (ru_reach_of c.delays) clock slot
    → symbol_jobs (accepted_of c arrivals) ep e slot symbol ≡ []
