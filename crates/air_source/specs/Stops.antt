-- How far an air heard some events.
use Rattle.std.specs.Prelude.{◌≡◌, List, ◌∷◌, ◌++◌}
use Rattle.air_source.specs.declared.events.Event.{Event}

-- the air heard the events before one of these, and stopped in that one
pub record StopsIn {A : Type 0} (grew : A → List Event → A → Type 0) (stopped : A → Event → A → Type 0) (events : List Event) (old new : A) : Type 0 where
  pub before : List Event
  pub event : Event
  pub after : List Event
  pub is : events ≡ before ++ event ∷ after
  pub middle : A
  pub heard : grew old before middle
  pub stop : stopped middle event new

-- the air heard the first of these events: all, some or none
pub record GrewSome {A : Type 0} (grew : A → List Event → A → Type 0) (events : List Event) (old new : A) : Type 0 where
  pub before : List Event
  pub after : List Event
  pub is : events ≡ before ++ after
  pub heard : grew old before new
