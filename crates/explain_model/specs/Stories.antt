-- The events of a replay, each arrival with its number and with what its unit judges of it (this project's profile).
use Rattle.std.specs.Prelude.{◌≡◌, ℕ, suc, ℤ, List, [], ◌∷◌, ◌++◌, Option}
use Rattle.ecpri_frames.specs.Messages.{pdu}
use Rattle.ecpri_frames.specs.declared.refusals.PduRefusal.{PduRefusal}
use Rattle.fault_counters.specs.declared.kinds.Counter.{Counter}
use Rattle.air_source.specs.declared.events.AirCell.{AirCell}
use Rattle.air_source.specs.declared.events.Event.{Event}
use Rattle.air_source.specs.declared.events.Event.TheVariants as event
use Rattle.air_source.specs.declared.events.Side.{Side}
use Rattle.window_config.specs.declared.config.Config.{Config}
use Rattle.unit_model.specs.Meetings.{Arrival}
use Rattle.unit_model.specs.Heard.{arrivals_heard}
use Rattle.unit_model.specs.Judgements.{Judgement, judgements}

-- an arrival: its number among all arrivals of both ways, its refusal, if it has one, and what its unit judges of it, by the arrivals
-- of that unit before it
pub record Story : Type 0 where
  pub number : ℕ
  pub side : Side
  pub arrival : Arrival
  pub refusal : Option PduRefusal
  pub judged : List Judgement

-- an event, an arrival with its story; a delay with its moment, its unit, its id and its value
pub data Told : Type 0 where
  Came : Story → Told
  Cell : AirCell → Told
  Delay : ℤ → Side → ℕ → ℤ → Told
  Count : Side → Counter → ℕ → Told

-- how many arrivals there are, of both ways
unfoldable pub arrival_count : List Event → ℕ
arrival_count [] = 0
arrival_count (event.Arrival side at frame ∷ rest) = suc (arrival_count rest)
arrival_count (event.Cell a ∷ rest) = arrival_count rest
arrival_count (event.Delay at side id value ∷ rest) = arrival_count rest
arrival_count (event.Count side counter value ∷ rest) = arrival_count rest

abbrev pub arrival_with : ℤ → List ℕ → Arrival
arrival_with at frame = record { at = at; frame = frame }

-- an arrival with this number, where these arrived at its unit before it, the newest first
abbrev pub story : Config → ℕ → Side → List Arrival → Arrival → Story
story c number side before a = record {
  number = number;
  side = side;
  arrival = a;
  refusal = (pdu a.frame).refusal;
  judged = judgements side c before a;
}

-- what is told of an event, where these events precede it, in their order
abbrev pub told_of : Config → List Event → Event → Told
told_of c earlier (event.Arrival side at frame) =
    Came (story c (suc (arrival_count earlier)) side (arrivals_heard side [] earlier) (arrival_with at.0 frame))
told_of c earlier (event.Cell a) = Cell a
told_of c earlier (event.Delay at side id value) = Delay at.0 side id value
told_of c earlier (event.Count side counter value) = Count side counter value

unfoldable pub told_after : Config → List Event → List Event → List Told
told_after c earlier [] = []
told_after c earlier (e ∷ rest) = told_of c earlier e ∷ told_after c (earlier ++ e ∷ []) rest

-- what is told of all events, in their order
abbrev pub told : Config → List Event → List Told
told c events = told_after c [] events

-- the arrivals among them
unfoldable pub stories_in : List Told → List Story
stories_in [] = []
stories_in (Came s ∷ rest) = s ∷ stories_in rest
stories_in (Cell a ∷ rest) = stories_in rest
stories_in (Delay at side id value ∷ rest) = stories_in rest
stories_in (Count side counter value ∷ rest) = stories_in rest

abbrev pub stories : Config → List Event → List Story
stories c events = stories_in (told c events)

-- ---- laws

-- what is told goes on as events occur; one more adds what is told of it
pub record StoriesGoOn : Type 0 where
  pub told_more : (c : Config) (events more : List Event) → told c (events ++ more) ≡ told c events ++ told_after c events more
  pub told_one : (c : Config) (events : List Event) (e : Event) → told c (events ++ e ∷ []) ≡ told c events ++ told_of c events e ∷ []
  pub stories_more : (xs ys : List Told) → stories_in (xs ++ ys) ≡ stories_in xs ++ stories_in ys
