-- What an air that carries text has written: a front of the text at any time, and all of it at the end.
use Rattle.std.proofs.Common.{◌≡◌, ◌⊎◌, inl, inr, ℕ, List, [], ◌∷◌, ◌++◌, Option, sym, ap, subst, append_assoc, ◌∙◌}
use Rattle.std.specs.List.{flat_map}
use Rattle.std.proofs.lemmas.Grind.{flat_map-append}
use Rattle.std.proofs.lemmas.List.Concat.{flat_map-cons}
use Rattle.std.specs.Io.KnownBytes.{append_known}
use Rattle.fh_base.specs.Told.{WritesFront}
use Rattle.fh_base.proofs.Progress.{front_first}
use Rattle.air_source.specs.declared.airs.AirFault.{AirFault}
use Rattle.air_source.specs.declared.events.Event.{Event}
use Rattle.air_source.specs.Stops.{StopsIn, GrewSome}
use Rattle.report_airs.specs.Text.{end_text}
use Rattle.fh_base.specs.Owed.{Carried}
use Rattle.fh_base.proofs.Carrying.{carried_front, front_behind, all_behind}
use Rattle.air_source.specs.Stopping.{Halted}

-- a line that is a text was carried as that text
pub carried_as : (written : Option (List ℕ)) (owed line text : List ℕ) (now : Option (List ℕ)) (owed_now : List ℕ)
    → line ≡ text → Carried written owed line now owed_now → Carried written owed text now owed_now
carried_as written owed line text now owed_now is h = subst (λ (t : List ℕ). Carried written owed t now owed_now) is h

-- whatever the text of an event
module _ (text_of : Event → List ℕ) where
  abbrev texts : List Event → List ℕ
  texts events = flat_map text_of events

  -- the lines of some events about one of them
  pub events_parted : (before : List Event) (event : Event) (after : List Event)
      → texts (before ++ event ∷ after) ≡ texts before ++ (text_of event ++ texts after)
  events_parted before event after =
      flat_map-append text_of before (event ∷ after) ∙ ap (λ x. texts before ++ x) (flat_map-cons text_of event after)

  -- Where a fresh air heard the events, it wrote a front of their text.
  pub heard_front : (written : Option (List ℕ)) (owed : List ℕ) (events : List Event) (now : Option (List ℕ)) (owed_now : List ℕ)
      → owed ≡ [] → Carried written owed (texts events) now owed_now → WritesFront written now (texts events)
  heard_front written owed events now owed_now fresh h =
      subst (λ (o : List ℕ). WritesFront written now (o ++ texts events)) fresh (carried_front written owed (texts events) now owed_now h)

  -- a front of the lines of events is one of their whole text
  pub front_of_whole : (written now : Option (List ℕ)) (events : List Event) → WritesFront written now (texts events) → WritesFront written now (texts events ++ end_text)
  front_of_whole written now events front = front_first written now (texts events) end_text front

  -- Where a fresh air heard some of the events, it wrote a front of their text.
  pub some_front : {A : Type 0} (written : A → Option (List ℕ)) (owed : A → List ℕ) (events : List Event) (old new : A) → owed old ≡ []
      → GrewSome {A = A} (λ a es b. Carried (written a) (owed a) (texts es) (written b) (owed b)) events old new
      → WritesFront (written old) (written new) (texts events)
  some_front written owed events old new fresh s =
      subst (λ (t : List ℕ). WritesFront (written old) (written new) t) (sym (ap texts s.is ∙ flat_map-append text_of s.before s.after))
      (front_first (written old) (written new) (texts s.before) (texts s.after)
      (heard_front (written old) (owed old) s.before (written new) (owed new) fresh s.heard))

  -- Where a fresh air stopped in one of the events, it wrote a front of their text.
  pub stops_front : {A : Type 0} (fault : AirFault) (written : A → Option (List ℕ)) (faults refusals : A → ℕ) (owed : A → List ℕ) (events : List Event) (old new : A) → owed old ≡ []
      → StopsIn {A = A} (λ a es b. Carried (written a) (owed a) (texts es) (written b) (owed b)) (λ a e b. Halted fault (written a) (faults a) (refusals a) (owed a) (text_of e) (written b) (faults b) (refusals b)) events old new
      → WritesFront (written old) (written new) (texts events)
  stops_front fault written faults refusals owed events old new fresh s =
      let front = front_behind (written old) (owed old) (texts s.before) (written s.middle) (owed s.middle) (text_of s.event) (written new) s.heard s.stop.front in
      let begun = subst (λ (o : List ℕ). WritesFront (written old) (written new) (o ++ (texts s.before ++ text_of s.event))) fresh front in
      let more = front_first (written old) (written new) (texts s.before ++ text_of s.event) (texts s.after) begun in
      subst (λ (t : List ℕ). WritesFront (written old) (written new) t)
      (append_assoc (texts s.before) (text_of s.event) (texts s.after) ∙ sym (ap texts s.is ∙ events_parted s.before s.event s.after)) more

  -- Where a fresh air heard some of the events, or stopped in one of them, it wrote a front of their text.
  pub cut_front : {A : Type 0} (fault : AirFault) (written : A → Option (List ℕ)) (faults refusals : A → ℕ) (owed : A → List ℕ) (events : List Event) (old new : A) → owed old ≡ []
      → GrewSome {A = A} (λ a es b. Carried (written a) (owed a) (texts es) (written b) (owed b)) events old new
      ⊎ StopsIn {A = A} (λ a es b. Carried (written a) (owed a) (texts es) (written b) (owed b)) (λ a e b. Halted fault (written a) (faults a) (refusals a) (owed a) (text_of e) (written b) (faults b) (refusals b)) events old new
      → WritesFront (written old) (written new) (texts events)
  cut_front fault written faults refusals owed events old new fresh (inl s) = some_front written owed events old new fresh s
  cut_front fault written faults refusals owed events old new fresh (inr s) = stops_front fault written faults refusals owed events old new fresh s

  -- Where a fresh air heard the events and then wrote a front of what it owed and of the last line, it wrote a front of the whole text.
  pub finish_front : (written : Option (List ℕ)) (owed : List ℕ) (events : List Event) (middle : Option (List ℕ)) (owed_now : List ℕ) (now : Option (List ℕ))
      → owed ≡ [] → Carried written owed (texts events) middle owed_now → WritesFront middle now (owed_now ++ end_text) → WritesFront written now (texts events ++ end_text)
  finish_front written owed events middle owed_now now fresh h front =
      subst (λ (o : List ℕ). WritesFront written now (o ++ (texts events ++ end_text))) fresh (front_behind written owed (texts events) middle owed_now end_text now h front)

  -- Where a fresh air heard the events and then wrote what it owed and the last line, it wrote the whole text.
  pub finished : (written : Option (List ℕ)) (owed : List ℕ) (events : List Event) (middle : Option (List ℕ)) (owed_now : List ℕ) (now : Option (List ℕ))
      → owed ≡ [] → Carried written owed (texts events) middle owed_now → now ≡ append_known middle (owed_now ++ end_text) → now ≡ append_known written (texts events ++ end_text)
  finished written owed events middle owed_now now fresh h whole =
      all_behind written owed (texts events) middle owed_now end_text now h whole
      ∙ ap (λ o. append_known written (o ++ (texts events ++ end_text))) fresh
