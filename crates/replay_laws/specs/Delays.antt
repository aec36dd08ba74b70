-- The delays that a replay tells: the results of the frames that land, each after its frame (this project's profile).
use Rattle.std.specs.Prelude.{◌≡◌, ℕ, ℤ, ◌≤ℤ◌, All, Contains, List, [], ◌∷◌, ◌++◌, map, Some, slice_get, slice_index_or}
use Rattle.air_source.specs.declared.events.Event.{Event}
use Rattle.air_source.specs.declared.events.Event.TheVariants as event
use Rattle.air_source.specs.declared.events.Side.{Side}
use Rattle.window_config.specs.declared.config.Config.{Config}
use Rattle.unit_model.specs.Meetings.{Arrival}
use Rattle.unit_model.specs.Radiated.{first_clock}
use Rattle.replay_laws.specs.Events.{events}
use Rattle.unit_model.specs.Events.{arrival_event, result_event}
use Rattle.replay_laws.specs.Moments.{end_of_time, landing_at}
use Rattle.replay_laws.specs.Traffic.{Traffic, landings_at}
use Rattle.unit_model.specs.declared.results.DelayResult.{DelayResult}

-- one of the results that some frames gave
pub record IsAmong (results : List (List DelayResult)) (r : DelayResult) : Type 0 where
  pub given : List DelayResult
  pub of_frame : Contains results given
  pub there : Contains given r

-- a delay is a result of the frames that land at its unit at its time
abbrev pub IsResult : Traffic → Event → Type 0
IsResult t (event.Delay at side id value) = IsAmong (t.results side at.0) (record { id = id; value = value })
IsResult t (event.Cell a) = Unit {0}
IsResult t (event.Arrival side at frame) = Unit {0}
IsResult t (event.Count side k value) = Unit {0}

-- each delay that is told, in every configuration, whatever lands and is planned
abbrev pub DelaysAreResults : Type 0
DelaysAreResults = (c : Config) (t : Traffic) → All (IsResult t) (events c t)

-- ---- where they are

-- a frame that lands at a unit at a tick, by its place among those that do, and what it gives
abbrev pub IsLanding : Side → Traffic → ℤ → ℕ → Arrival → Type 0
IsLanding side t tick place frame = slice_get (landing_at (landings_at side t) tick) place ≡ Some frame

abbrev pub given_by : Side → Traffic → ℤ → ℕ → List DelayResult
given_by side t tick place = slice_index_or (t.results side tick) place []

-- what is told before a result of a tick ends with the frame that gave it and the frame's results before it
pub record IsBehindFrame (t : Traffic) (side : Side) (tick : ℤ) (r : DelayResult) (told : List Event) : Type 0 where
  pub place : ℕ
  pub frame : Arrival
  pub landed : IsLanding side t tick place frame
  pub earlier : List DelayResult
  pub later : List DelayResult
  pub gave : given_by side t tick place ≡ earlier ++ r ∷ later
  pub front : List Event
  pub is : told ≡ front ++ arrival_event side frame ∷ map (result_event side tick) earlier

-- an event, after these
abbrev pub FollowsFrame : Traffic → List Event → Event → Type 0
FollowsFrame t told (event.Delay at side id value) = IsBehindFrame t side at.0 (record { id = id; value = value }) told
FollowsFrame t told (event.Cell a) = Unit {0}
FollowsFrame t told (event.Arrival side at frame) = Unit {0}
FollowsFrame t told (event.Count side k value) = Unit {0}

abbrev pub DelaysFollowFrames : Type 0
DelaysFollowFrames = (c : Config) (t : Traffic) (before : List Event) (x : Event) (after : List Event) → events c t ≡ before ++ x ∷ after → FollowsFrame t before x

-- ---- none is left out

-- some events are one after the other among all
pub record StandTogether (some all : List Event) : Type 0 where
  pub before : List Event
  pub after : List Event
  pub are : all ≡ before ++ (some ++ after)

-- each frame that lands is told, and all its results after it
abbrev pub FramesAreTold : Type 0
FramesAreTold =
    (c : Config) (t : Traffic) (side : Side) (tick : ℤ) (place : ℕ) (frame : Arrival) → first_clock ≤ℤ tick → tick ≤ℤ end_of_time → IsLanding side t tick place frame
    → StandTogether (arrival_event side frame ∷ map (result_event side tick) (given_by side t tick place)) (events c t)
