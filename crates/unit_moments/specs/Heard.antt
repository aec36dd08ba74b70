-- What of events does not depend on what was heard before them (this project's profile).
use Rattle.std.specs.Prelude.{List, [], ◌∷◌}
use Rattle.air_source.specs.declared.events.Event.{Event}
use Rattle.air_source.specs.declared.events.Event.TheVariants.{Arrival, Cell, Count, Delay}
use Rattle.window_config.specs.declared.config.Config.{Config}

-- it heard these events, whatever was heard earlier
abbrev pub HeardAnyhow : {A : Type 0} → (Config → List Event → A → List Event → A → Type 0) → A → List Event → A → Type 0
HeardAnyhow grew a events b = (k : Config) (earlier : List Event) → grew k earlier a events b

-- the events but frames
abbrev pub without_frames : List Event → List Event
without_frames [] = []
without_frames (Cell a ∷ rest) = Cell a ∷ without_frames rest
without_frames (Arrival side at frame ∷ rest) = without_frames rest
without_frames (Delay at side id value ∷ rest) = Delay at side id value ∷ without_frames rest
without_frames (Count side counter value ∷ rest) = Count side counter value ∷ without_frames rest
