-- What callers of the air need: a fresh one writes out a capture.
use Rattle.std.proofs.Common.{◌≡◌, ◌≢◌, ◌⊎◌, inl, inr, ℕ, List, [], ◌∷◌, ◌++◌, Option, length, refl, sym, ap, subst, arith, append_assoc, append-nil, ◌∙◌}
use Rattle.std.proofs.lemmas.Grind.{flat_map-append}
use Rattle.std.proofs.lemmas.List.Concat.{flat_map-cons}
use Rattle.std.specs.Io.KnownBytes.{append_known}
use Rattle.fh_base.specs.Told.{WritesFront, WritesPart}
use Rattle.fh_base.proofs.Progress.{front_none}
use Rattle.air_source.specs.declared.airs.AirFault.{AirFault}
use Rattle.air_source.specs.declared.events.Event.{Event}
use Rattle.air_source.specs.declared.events.Event.TheVariants.{Cell, Delay, Arrival, Count}
use Rattle.air_source.specs.Stops.{StopsIn, GrewSome}
use Rattle.fh_base.proofs.Parts.{front_part, part_behind, part_first, part_pushed}
use Rattle.air_source.specs.Stopping.{Halted}
use Rattle.air_source.proofs.Fronts.{IsFront, WritesOut, stops_front, carried_from, front_from, all_from}
use Rattle.capture_records.specs.declared.layout.TheConstants.{MAGIC}
use Rattle.capture_records.specs.Records.{record_bytes, records_bytes}
use Rattle.report_airs.specs.Capture.{arrived, arrivals_in, whole_capture, event_record, events_records}
use Rattle.report_airs.specs.Recorded.{Recorded}

-- the records of one event's arrivals
one_record : (event : Event) → records_bytes (arrived event) ≡ event_record event
one_record (Arrival side at frame) = flat_map-cons record_bytes (record { side = side; at = at; frame = frame }) [] ∙ append-nil (event_record (Arrival side at frame))
one_record (Cell c) = refl
one_record (Delay at side id value) = refl
one_record (Count side counter value) = refl

-- the records of the arrivals are those of the events
pub records_are : (events : List Event) → records_bytes (arrivals_in events) ≡ events_records events
records_are [] = refl
records_are (event ∷ events) =
    ap records_bytes (flat_map-cons arrived event events)
    ∙ flat_map-append record_bytes (arrived event) (arrivals_in events)
    ∙ ap (λ bytes. bytes ++ records_bytes (arrivals_in events)) (one_record event)
    ∙ ap (λ bytes. event_record event ++ bytes) (records_are events)
    ∙ sym (flat_map-cons event_record event events)

-- the capture is the magic and the records of the events
pub capture_is : (events : List Event) → whole_capture events ≡ MAGIC ++ events_records events
capture_is events = ap (λ bytes. MAGIC ++ bytes) (records_are events)

-- the capture of more events begins with that of the first
begins : (first second : List Event) → IsFront (whole_capture first) (whole_capture (first ++ second))
begins first second = record {
  rest = events_records second;
  is =
      capture_is (first ++ second)
      ∙ ap (λ bytes. MAGIC ++ bytes) (flat_map-append event_record first second)
      ∙ sym (append_assoc MAGIC (events_records first) (events_records second))
      ∙ ap (λ bytes. bytes ++ events_records second) (sym (capture_is first));
}

-- the bytes of some events and of one more
one_more : (events : List Event) (event : Event) → MAGIC ++ (events_records events ++ event_record event) ≡ whole_capture (events ++ event ∷ [])
one_more events event =
    ap (λ bytes. MAGIC ++ (events_records events ++ bytes)) (sym (flat_map-cons event_record event [] ∙ append-nil (event_record event)))
    ∙ ap (λ bytes. MAGIC ++ bytes) (sym (flat_map-append event_record events (event ∷ [])))
    ∙ sym (capture_is (events ++ event ∷ []))

-- from an air that owes the magic on, the capture is written out
pub writes_out : {A : Type 0} (fault : AirFault) (written : A → Option (List ℕ)) (faults refusals : A → ℕ) (owed : A → List ℕ) (fresh : A) → owed fresh ≡ MAGIC
    → WritesOut {A = A} (λ a es b. Recorded (written a) (owed a) (events_records es) (written b) (owed b))
    (λ a e b. Halted fault (written a) (faults a) (refusals a) (owed a) (event_record e) (written b) (faults b) (refusals b)) written whole_capture fresh
writes_out fault written faults refusals owed fresh is = record {
  heard = λ events now h.
      subst (λ (t : List ℕ). WritesFront (written fresh) (written now) t) (sym (capture_is events))
      (carried_from (written fresh) (owed fresh) MAGIC (events_records events) (written now) (owed now) is h.carried);
  stops = λ events event middle now h stop.
      subst (λ (t : List ℕ). WritesFront (written fresh) (written now) t) (one_more events event)
      (front_from (written fresh) (owed fresh) MAGIC (events_records events) (written middle) (owed middle) (event_record event) (written now) is h.carried stop.front);
  begins = begins;
}

-- where it heard the events, and then wrote what it owed, it wrote their capture
pub finished : (events : List Event) (written : Option (List ℕ)) (owed : List ℕ) (middle : Option (List ℕ)) (owed_now : List ℕ) (now : Option (List ℕ))
    → owed ≡ MAGIC → Recorded written owed (events_records events) middle owed_now → now ≡ append_known middle owed_now → now ≡ append_known written (whole_capture events)
finished events written owed middle owed_now now is h whole =
    let all = all_from written owed MAGIC (events_records events) middle owed_now [] now is h.carried (whole ∙ ap (append_known middle) (sym (append-nil owed_now))) in
    all ∙ ap (λ bytes. append_known written (MAGIC ++ bytes)) (append-nil (events_records events)) ∙ ap (append_known written) (sym (capture_is events))

-- where it then wrote a front of what it owed, it wrote a front of their capture
pub finish_front : (events : List Event) (written : Option (List ℕ)) (owed : List ℕ) (middle : Option (List ℕ)) (owed_now : List ℕ) (now : Option (List ℕ))
    → owed ≡ MAGIC → Recorded written owed (events_records events) middle owed_now → WritesFront middle now owed_now → WritesFront written now (whole_capture events)
finish_front events written owed middle owed_now now is h front =
    let more = subst (λ (t : List ℕ). WritesFront middle now t) (sym (append-nil owed_now)) front in
    let all = front_from written owed MAGIC (events_records events) middle owed_now [] now is h.carried more in
    subst (λ (t : List ℕ). WritesFront written now t) (ap (λ bytes. MAGIC ++ bytes) (append-nil (events_records events)) ∙ sym (capture_is events)) all

-- where it stopped in one of some events, it wrote a front of their capture
pub stopped_front : {A : Type 0} (fault : AirFault) (written : A → Option (List ℕ)) (faults refusals : A → ℕ) (owed : A → List ℕ) (events : List Event) (fresh now : A) → owed fresh ≡ MAGIC
    → StopsIn {A = A} (λ a es b. Recorded (written a) (owed a) (events_records es) (written b) (owed b))
    (λ a e b. Halted fault (written a) (faults a) (refusals a) (owed a) (event_record e) (written b) (faults b) (refusals b)) events fresh now
    → WritesFront (written fresh) (written now) (whole_capture events)
stopped_front {A} fault written faults refusals owed events fresh now is stops =
    stops_front {A = A} (λ a es b. Recorded (written a) (owed a) (events_records es) (written b) (owed b))
    (λ a e b. Halted fault (written a) (faults a) (refusals a) (owed a) (event_record e) (written b) (faults b) (refusals b)) written whole_capture fresh now events
    (writes_out fault written faults refusals owed fresh is) stops

-- ---- not all of it, where it was not finished: the last byte that was recorded is still owed

-- the magic is not empty
some_magic : MAGIC ≢ []
some_magic none =
    let empty : length MAGIC ≡ 0 = ap length none in
    let eight : length MAGIC ≡ 8 = refl in
    omega (arith, empty, eight)

-- what was written as a part of the front of a text is a part of the text
part_of : (old new : Option (List ℕ)) (front text : List ℕ) → IsFront front text → WritesPart old new front → WritesPart old new text
part_of old new front text begins part = subst (λ (t : List ℕ). WritesPart old new t) (sym begins.is) (part_first old new front begins.rest part)

-- where it heard some events, it wrote a part of their capture
heard_part : (events : List Event) (written : Option (List ℕ)) (owed : List ℕ) (now : Option (List ℕ)) (owed_now : List ℕ)
    → owed ≡ MAGIC → Recorded written owed (events_records events) now owed_now → WritesPart written now (whole_capture events)
heard_part events written owed now owed_now is h =
    let some : owed ≢ [] = λ none. some_magic (sym is ∙ none) in
    let part = part_pushed written owed (events_records events) now owed_now now h.carried (front_part now now [] owed_now (h.owing some) (front_none now [])) in
    subst (λ (t : List ℕ). WritesPart written now t) (ap (λ o. o ++ events_records events) is ∙ sym (capture_is events)) part

-- where it stopped in one more event, it wrote a part of the capture of all of them
halted_part : (events : List Event) (event : Event) (written : Option (List ℕ)) (owed : List ℕ) (middle : Option (List ℕ)) (owed_now : List ℕ) (now : Option (List ℕ))
    → owed ≡ MAGIC → Recorded written owed (events_records events) middle owed_now → WritesPart middle now (owed_now ++ event_record event) → WritesPart written now (whole_capture (events ++ event ∷ []))
halted_part events event written owed middle owed_now now is h part =
    let all = part_behind written owed (events_records events) middle owed_now (event_record event) now h.carried part in
    subst (λ (t : List ℕ). WritesPart written now t) (ap (λ o. o ++ (events_records events ++ event_record event)) is ∙ one_more events event) all

module _ {A : Type 0} (fault : AirFault) (written : A → Option (List ℕ)) (faults refusals : A → ℕ) (owed : A → List ℕ) (events : List Event) (fresh now : A) where
  -- what the air heard, and how it stopped
  abbrev Grew : A → List Event → A → Type 0
  Grew a es b = Recorded (written a) (owed a) (events_records es) (written b) (owed b)

  abbrev Stopped : A → Event → A → Type 0
  Stopped a e b = Halted fault (written a) (faults a) (refusals a) (owed a) (event_record e) (written b) (faults b) (refusals b)

  -- where it stopped in one of some events, it wrote a part of their capture
  pub stopped_part : owed fresh ≡ MAGIC → StopsIn Grew Stopped events fresh now → WritesPart (written fresh) (written now) (whole_capture events)
  stopped_part is stops =
      let told = stops.before ++ stops.event ∷ [] in
      let part = halted_part stops.before stops.event (written fresh) (owed fresh) (written stops.middle) (owed stops.middle) (written now) is stops.heard stops.stop.part in
      let whole = part_of (written fresh) (written now) (whole_capture told) (whole_capture (told ++ stops.after)) (begins told stops.after) part in
      subst (λ (es : List Event). WritesPart (written fresh) (written now) (whole_capture es)) (append_assoc stops.before (stops.event ∷ []) stops.after ∙ sym stops.is) whole

  -- where it heard some of them, or stopped in one
  pub cut_part : owed fresh ≡ MAGIC → GrewSome Grew events fresh now ⊎ StopsIn Grew Stopped events fresh now → WritesPart (written fresh) (written now) (whole_capture events)
  cut_part is (inr stops) = stopped_part is stops
  cut_part is (inl some) =
      let part = heard_part some.before (written fresh) (owed fresh) (written now) (owed now) is some.heard in
      let whole = part_of (written fresh) (written now) (whole_capture some.before) (whole_capture (some.before ++ some.after)) (begins some.before some.after) part in
      subst (λ (es : List Event). WritesPart (written fresh) (written now) (whole_capture es)) (sym some.is) whole

-- where it then wrote a part of what it owed, it wrote a part of their capture
pub finish_part : (events : List Event) (written : Option (List ℕ)) (owed : List ℕ) (middle : Option (List ℕ)) (owed_now : List ℕ) (now : Option (List ℕ))
    → owed ≡ MAGIC → Recorded written owed (events_records events) middle owed_now → WritesPart middle now owed_now → WritesPart written now (whole_capture events)
finish_part events written owed middle owed_now now is h part =
    subst (λ (t : List ℕ). WritesPart written now t) (ap (λ o. o ++ events_records events) is ∙ sym (capture_is events))
    (part_pushed written owed (events_records events) middle owed_now now h.carried part)
