-- Where nothing is planned, and nothing lands and is measured at the distributed unit, all events are the radio unit's (this project's profile).
use Rattle.std.specs.Prelude.{◌≡◌, ℤ, List, []}
use Rattle.air_source.specs.declared.events.AirCell.{AirCell}
use Rattle.air_source.specs.declared.events.Side.TheVariants.{Du}
use Rattle.window_config.specs.declared.config.Config.{Config}
use Rattle.unit_model.specs.Meetings.{Arrival}
use Rattle.unit_model.specs.Reports.{du_known}
use Rattle.unit_model.specs.Standing.{due}
use Rattle.replay_laws.specs.Events.{arrivals_at, cells_reported_at, count_events}
use Rattle.replay_laws.specs.Moments.{landing_at}
use Rattle.replay_laws.specs.Passing.{AreLandings}
use Rattle.replay_laws.specs.Traffic.{Traffic}

-- the distributed unit's part of the events is empty: nothing lands at it, and nothing is ever due at it
pub record IsDuIdle (c : Config) (t : Traffic) : Type 0 where
  pub landings_are : AreLandings t.at_du
  pub calm : (tick : ℤ) → landing_at t.at_du tick ≡ []
  pub quiet : (arrivals : List Arrival) (heard : List AirCell) (to : ℤ) → due Du c.delays c.endpoints (du_known c t.planned arrivals) heard to ≡ []
  pub arrivals : (tick : ℤ) → arrivals_at Du t tick ≡ []
  pub cells : (tick : ℤ) → cells_reported_at Du c t tick ≡ []
  pub counts : count_events Du c t ≡ []

abbrev pub IdleWithoutPlan : Type 0
IdleWithoutPlan = (c : Config) (t : Traffic) → t.planned ≡ [] → t.at_du ≡ [] → t.counted Du ≡ [] → IsDuIdle c t
