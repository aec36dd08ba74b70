-- The form of an air that writes text to a sink.
--
-- Such an air has a state of its own and bytes that it still owes. An event moves the state on and gives
-- bytes; some of what is owed is pushed out to the sink, in order, and the rest stays owed. Where the sink
-- does not tell its bytes, nothing is said.
use Rattle.std.specs.Prelude.{◌≡◌, ℕ, List, [], ◌∷◌, ◌++◌, Option, IsSome}
use Rattle.std.specs.Io.KnownBytes.{append_known}
use Rattle.fh_base.specs.Told.{WritesFront}
use Rattle.air_source.specs.declared.events.Event.{Event}

-- the state after the events
abbrev pub state_after : {S : Type 0} → (S → Event → S) → S → List Event → S
state_after next state [] = state
state_after next state (event ∷ events) = state_after next (next state event) events

-- the bytes that the events give, from a state
abbrev pub given_by : {S : Type 0} → (S → Event → S) → (S → Event → List ℕ) → S → List Event → List ℕ
given_by next gives state [] = []
given_by next gives state (event ∷ events) = gives state event ++ given_by next gives (next state event) events

-- the text of the events from a state, with the last bytes
abbrev pub text_of : {S : Type 0} → (S → Event → S) → (S → Event → List ℕ) → (S → List ℕ) → S → List Event → List ℕ
text_of next gives ends state events = given_by next gives state events ++ ends (state_after next state events)

-- Over the events the state moved on, and what was pushed out and is owed now are what was owed and the bytes of the events. `written` and `now` are the bytes of the sink before and after.
pub record Moved {S : Type 0} (next : S → Event → S) (gives : S → Event → List ℕ) (state : S) (owed : List ℕ) (written : Option (List ℕ)) (events : List Event) (state_now : S) (owed_now : List ℕ) (now : Option (List ℕ)) : Type 0 where
  pub pushed : List ℕ
  pub writes : now ≡ append_known written pushed
  pub moved : IsSome written → state_now ≡ state_after next state events
  pub splits : IsSome written → pushed ++ owed_now ≡ owed ++ given_by next gives state events

-- in the event, a front of what was owed and of the event's own bytes was written
abbrev pub Halted : {S : Type 0} → (S → Event → List ℕ) → S → List ℕ → Option (List ℕ) → Event → Option (List ℕ) → Type 0
Halted gives state owed written event now = WritesFront written now (owed ++ gives state event)
