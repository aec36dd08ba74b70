-- What one more arrival at a unit leaves as it was: all whose moment is past when it is received; and at the radio unit all that is sent
-- by then, and every claim (this project's profile).
use Rattle.std.specs.Prelude.{◌≡◌, ℕ, ℤ, ◌<◌, ◌≤ℤ◌, List, ◌∷◌, All, Some}
use Rattle.fh_base.specs.Air.{air_of}
use Rattle.fh_base.specs.declared.values.Slot.{Slot}
use Rattle.air_source.specs.declared.events.AirCell.{AirCell}
use Rattle.air_source.specs.declared.events.Side.{Side}
use Rattle.air_source.specs.declared.events.Side.TheVariants.{Ru, Du}
use Rattle.window_config.specs.Limits.{IsWithinLimits}
use Rattle.window_config.specs.declared.config.Config.{Config}
use Rattle.window_config.specs.declared.endpoints.EndpointConfig.{EndpointConfig}
use Rattle.unit_model.specs.Claims.{claim_at}
use Rattle.unit_model.specs.Meetings.{Arrival}
use Rattle.unit_model.specs.Proper.{IsAt, IsTime}
use Rattle.unit_model.specs.Radiated.{Known, reported, used_mask}
use Rattle.unit_model.specs.Reports.{accepted_of, du_known, ru_known}
use Rattle.unit_model.specs.Standing.{AreInTime, due, past_of}
use Rattle.unit_model.specs.Uplink.{jobs, symbol_jobs}
use Rattle.unit_model.specs.declared.allocations.Allocation.{Allocation}
use Rattle.unit_model.specs.declared.cells.Cell.{Cell}
use Rattle.unit_model.specs.declared.cells.Claim.{Claim}

-- an arrival that follows these, at a time that a unit may be given
pub record IsNextArrival (c : Config) (a : Arrival) (arrivals : List Arrival) : Type 0 where
  pub limits : IsWithinLimits c.delays
  pub came : AreInTime a.at arrivals
  pub times : All (λ x. IsTime x.at) (a ∷ arrivals)

-- what a unit is to know, where these are planned and these arrived at it
abbrev pub known_at : Side → Config → List Allocation → List Arrival → Known
known_at Ru c planned arrivals = ru_known c arrivals
known_at Du c planned arrivals = du_known c planned arrivals

-- what it reports up to a time
abbrev pub reported_at : Side → Config → List Allocation → List Arrival → ℤ → List AirCell
reported_at side c planned arrivals to = reported side c.delays c.endpoints (known_at side c planned arrivals) to

abbrev pub ArrivalLeavesDue : Type 0
ArrivalLeavesDue =
    (side : Side) (c : Config) (planned : List Allocation) (a : Arrival) (arrivals : List Arrival) (heard : List AirCell) (to : ℤ)
    → IsNextArrival c a arrivals → to ≤ℤ past_of side a.at
    → due side c.delays c.endpoints (known_at side c planned (a ∷ arrivals)) heard to
    ≡ due side c.delays c.endpoints (known_at side c planned arrivals) heard to

abbrev pub ArrivalLeavesReported : Type 0
ArrivalLeavesReported =
    (side : Side) (c : Config) (planned : List Allocation) (a : Arrival) (arrivals : List Arrival) (to : ℤ) → IsNextArrival c a arrivals → to ≤ℤ past_of side a.at
    → reported_at side c planned (a ∷ arrivals) to ≡ reported_at side c planned arrivals to

abbrev pub ArrivalLeavesSent : Type 0
ArrivalLeavesSent =
    (c : Config) (a : Arrival) (arrivals : List Arrival) (to : ℤ) → IsNextArrival c a arrivals → to ≤ℤ a.at
    → jobs c.endpoints (accepted_of c (a ∷ arrivals)) to ≡ jobs c.endpoints (accepted_of c arrivals) to

-- the messages of a symbol that starts by then
abbrev pub ArrivalLeavesJobs : Type 0
ArrivalLeavesJobs =
    (c : Config) (a : Arrival) (arrivals : List Arrival) (ep : ℕ) (e : EndpointConfig) (slot : Slot) (symbol : ℕ) → IsNextArrival c a arrivals
    → IsAt c.endpoints ep e → air_of e.numerology slot symbol ≤ℤ a.at
    → symbol_jobs (accepted_of c (a ∷ arrivals)) ep e slot symbol ≡ symbol_jobs (accepted_of c arrivals) ep e slot symbol

-- a claim stays, and so a cell that is in use stays in use
abbrev pub ArrivalLeavesClaims : Type 0
ArrivalLeavesClaims =
    (c : Config) (a : Arrival) (arrivals : List Arrival) (cell : Cell) (re : ℕ) (claim : Claim) → re < 12
    → claim_at (accepted_of c arrivals) cell re ≡ Some claim → claim_at (accepted_of c (a ∷ arrivals)) cell re ≡ Some claim

abbrev pub ArrivalLeavesUse : Type 0
ArrivalLeavesUse =
    (c : Config) (a : Arrival) (arrivals : List Arrival) (cell : Cell)
    → 0 < used_mask ((ru_known c arrivals).claims cell) → 0 < used_mask ((ru_known c (a ∷ arrivals)).claims cell)
