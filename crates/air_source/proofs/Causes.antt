-- Causes over several calls of an air.
use Rattle.std.proofs.Common.{ℕ, ◌≡◌, Result, Err}
use Rattle.fh_base.proofs.Causes.{counts_since}
use Rattle.air_source.specs.Causes.{HasAirCause}
use Rattle.air_source.specs.declared.airs.AirFault.{AirFault}

-- a cause since a time up to which the count did not change is one since before
pub air_cause_since : {T : Type 0} (before middle now : ℕ) (result : Result T AirFault) → middle ≡ before → HasAirCause middle now result → HasAirCause before now result
air_cause_since before middle now result still cause = counts_since _ before middle now still cause

-- the same of an error
pub cause_then : (first before now : ℕ) (fault : AirFault) → before ≡ first
    → (let one : Result (Unit {0}) AirFault = Err fault in HasAirCause before now one) → (let one : Result (Unit {0}) AirFault = Err fault in HasAirCause first now one)
cause_then first before now fault still cause = air_cause_since {T = Unit {0}} first before now (Err fault) still cause
