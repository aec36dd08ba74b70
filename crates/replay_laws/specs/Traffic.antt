-- What a replay goes over (this project's profile).
use Rattle.std.specs.Prelude.{ℤ, List}
use Rattle.air_source.specs.declared.events.Side.{Side}
use Rattle.air_source.specs.declared.events.Side.TheVariants.{Ru, Du}
use Rattle.fault_counters.specs.declared.kinds.Counter.{Counter}
use Rattle.unit_model.specs.Meetings.{Arrival}
pub use Rattle.unit_laws.specs.Arriving.{known_at, reported_at}
use Rattle.unit_model.specs.declared.results.DelayResult.{DelayResult}
use Rattle.unit_model.specs.declared.allocations.Allocation.{Allocation}

-- the frames that land at each unit, listed in any order of their times, and the uplink allocations of the plan; and of delay measurement
-- the results that the frames landing at a unit at a tick give, frame by frame, and what it counted at each unit
pub record Traffic : Type 0 where
  pub at_ru : List Arrival
  pub planned : List Allocation
  pub at_du : List Arrival
  pub results : Side → ℤ → List (List DelayResult)
  pub counted : Side → List Counter

abbrev pub landings_at : Side → Traffic → List Arrival
landings_at Ru t = t.at_ru
landings_at Du t = t.at_du
