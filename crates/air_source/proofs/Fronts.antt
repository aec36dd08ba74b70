-- What an air over a sink wrote of a text, from its first event on.
use Rattle.std.proofs.Common.{◌≡◌, ◌⊎◌, inl, inr, ℕ, List, [], ◌∷◌, ◌++◌, Option, sym, ap, subst, append_assoc, ◌∙◌}
use Rattle.std.specs.Io.KnownBytes.{append_known}
use Rattle.fh_base.specs.Told.{WritesFront}
use Rattle.fh_base.proofs.Progress.{front_first}
use Rattle.air_source.specs.declared.events.Event.{Event}
use Rattle.air_source.specs.Stops.{StopsIn, GrewSome}
use Rattle.fh_base.specs.Owed.{Carried}
use Rattle.fh_base.proofs.Carrying.{carried_front, front_behind, all_behind}

-- a text begins with another
pub record IsFront (front text : List ℕ) : Type 0 where
  pub rest : List ℕ
  pub is : text ≡ front ++ rest

-- what was written as a front of the front of a text is a front of the text
pub front_of : (old new : Option (List ℕ)) (front text : List ℕ) → IsFront front text → WritesFront old new front → WritesFront old new text
front_of old new front text begins writes = subst (λ (t : List ℕ). WritesFront old new t) (sym begins.is) (front_first old new front begins.rest writes)

-- From this air on, what any events give is a text: whatever the air heard or stopped in, a front of their text was written, and the text of more events begins with theirs.
pub record WritesOut {A : Type 0} (grew : A → List Event → A → Type 0) (stopped : A → Event → A → Type 0) (written : A → Option (List ℕ)) (text : List Event → List ℕ) (fresh : A) : Type 0 where
  pub heard : (events : List Event) (now : A) → grew fresh events now → WritesFront (written fresh) (written now) (text events)
  pub stops : (events : List Event) (event : Event) (middle now : A) → grew fresh events middle → stopped middle event now → WritesFront (written fresh) (written now) (text (events ++ event ∷ []))
  pub begins : (first second : List Event) → IsFront (text first) (text (first ++ second))

-- where it heard some of the events, it wrote a front of their text
pub some_front : {A : Type 0} (grew : A → List Event → A → Type 0) (stopped : A → Event → A → Type 0) (written : A → Option (List ℕ)) (text : List Event → List ℕ) (fresh now : A) (events : List Event)
    → WritesOut grew stopped written text fresh → GrewSome grew events fresh now → WritesFront (written fresh) (written now) (text events)
some_front grew stopped written text fresh now events writes some =
    let whole = front_of (written fresh) (written now) (text some.before) (text (some.before ++ some.after)) (writes.begins some.before some.after) (writes.heard some.before now some.heard) in
    subst (λ (es : List Event). WritesFront (written fresh) (written now) (text es)) (sym some.is) whole

-- where it stopped in one of them, it wrote a front of their text
pub stops_front : {A : Type 0} (grew : A → List Event → A → Type 0) (stopped : A → Event → A → Type 0) (written : A → Option (List ℕ)) (text : List Event → List ℕ) (fresh now : A) (events : List Event)
    → WritesOut grew stopped written text fresh → StopsIn grew stopped events fresh now → WritesFront (written fresh) (written now) (text events)
stops_front grew stopped written text fresh now events writes stops =
    let told = stops.before ++ stops.event ∷ [] in
    let front = writes.stops stops.before stops.event stops.middle now stops.heard stops.stop in
    let whole = front_of (written fresh) (written now) (text told) (text (told ++ stops.after)) (writes.begins told stops.after) front in
    subst (λ (es : List Event). WritesFront (written fresh) (written now) (text es)) (append_assoc stops.before (stops.event ∷ []) stops.after ∙ sym stops.is) whole

-- where it heard some of them, or stopped in one
pub cut_front : {A : Type 0} (grew : A → List Event → A → Type 0) (stopped : A → Event → A → Type 0) (written : A → Option (List ℕ)) (text : List Event → List ℕ) (fresh now : A) (events : List Event)
    → WritesOut grew stopped written text fresh → GrewSome grew events fresh now ⊎ StopsIn grew stopped events fresh now → WritesFront (written fresh) (written now) (text events)
cut_front grew stopped written text fresh now events writes (inl some) = some_front grew stopped written text fresh now events writes some
cut_front grew stopped written text fresh now events writes (inr stops) = stops_front grew stopped written text fresh now events writes stops

-- ---- by what was owed at first

-- what was owed and bytes after it went on: a front of them was written
pub carried_from : (written : Option (List ℕ)) (owed start bytes : List ℕ) (now : Option (List ℕ)) (owed_now : List ℕ)
    → owed ≡ start → Carried written owed bytes now owed_now → WritesFront written now (start ++ bytes)
carried_from written owed start bytes now owed_now is h = subst (λ (o : List ℕ). WritesFront written now (o ++ bytes)) is (carried_front written owed bytes now owed_now h)

-- and of them and more, where a front of what is owed and of more was written after them
pub front_from : (written : Option (List ℕ)) (owed start bytes : List ℕ) (middle : Option (List ℕ)) (owed_now more : List ℕ) (now : Option (List ℕ))
    → owed ≡ start → Carried written owed bytes middle owed_now → WritesFront middle now (owed_now ++ more) → WritesFront written now (start ++ (bytes ++ more))
front_from written owed start bytes middle owed_now more now is h front =
    subst (λ (o : List ℕ). WritesFront written now (o ++ (bytes ++ more))) is (front_behind written owed bytes middle owed_now more now h front)

-- and all of them and more, where what is owed and more was written after them
pub all_from : (written : Option (List ℕ)) (owed start bytes : List ℕ) (middle : Option (List ℕ)) (owed_now more : List ℕ) (now : Option (List ℕ))
    → owed ≡ start → Carried written owed bytes middle owed_now → now ≡ append_known middle (owed_now ++ more) → now ≡ append_known written (start ++ (bytes ++ more))
all_from written owed start bytes middle owed_now more now is h whole =
    all_behind written owed bytes middle owed_now more now h whole ∙ ap (λ o. append_known written (o ++ (bytes ++ more))) is
