-- What the events of one unit leave of what an air heard of the other, and how far the radio unit is in step with what was heard.
use Rattle.std.proofs.Common.{◌≡◌, ℤ, pos, ◌+ℤ◌, ◌≤ℤ◌, Bool, false, List, [], ◌∷◌, ◌++◌, refl, sym, ap, ◌∙◌, append_assoc, append-nil, subst}
use Rattle.std.specs.Prelude.{All, if◌then◌else◌, map}
use Rattle.std.proofs.lemmas.List.Elements.{All-append, All-cons, All-head, All-nil, All-tail}
use Rattle.air_source.specs.declared.events.AirCell.{AirCell}
use Rattle.air_source.specs.declared.events.Event.{Event}
use Rattle.air_source.specs.declared.events.Event.TheVariants as event
use Rattle.air_source.specs.declared.events.Side.{Side}
use Rattle.air_source.specs.declared.events.Side.TheVariants.{Ru as AtRu, Du as AtDu}
use Rattle.fh_document.specs.declared.document.Document.{Document}
use Rattle.document_traffic.specs.Replayed.{traffic_of}
use Rattle.replay_laws.proofs.EventLemmas.{events_go_on}
use Rattle.unit_laws.proofs.HeardLemmas.{AreOf, cells-append, tick_of_side}
use Rattle.unit_model.proofs.ToldLemmas.{told_all}
use Rattle.replay_laws.specs.Events.{arrivals_at, cells_reported_at, events_at, start_of}
use Rattle.unit_model.specs.Heard.{arrivals_heard, cells_heard, is_of}
use Rattle.replay_laws.specs.Moments.{all_arrivals, landing_at}
use Rattle.replay_laws.specs.Traffic.{known_at, landings_at}
use Rattle.ru_buffers.specs.declared.unit.Ru.{Ru}
use Rattle.unit_moments.specs.Stops.{RestsBehind}
use Rattle.unit_model.specs.Meetings.{Arrival}
use Rattle.unit_model.specs.Radiated.{first_clock}
use Rattle.fronthaul_replay.specs.BoxTurns.{AtRadioTurn, IsRadioInStep, events_before, intake_events, radio_events}
use Rattle.unit_laws.proofs.AddedLemmas.{in_front}
use Rattle.unit_model.proofs.ArrivalLemmas.{arrivals-append}

-- ---- events of one unit

-- the unit of which an event tells
abbrev pub unit_of : Event → Side
unit_of (event.Cell a) = a.side
unit_of (event.Arrival side at frame) = side
unit_of (event.Delay at side id value) = side
unit_of (event.Count side counter value) = side

abbrev pub AreEventsOf : Side → List Event → Type 0
AreEventsOf side es = All (λ e. unit_of e ≡ side) es

pub events_front : (side : Side) (xs ys : List Event) → AreEventsOf side (xs ++ ys) → AreEventsOf side xs
events_front side xs ys h = in_front (λ (e : Event). unit_of e ≡ side) xs ys h

cells_of : (side : Side) (cs : List AirCell) → AreOf side cs → AreEventsOf side (map event.Cell cs)
cells_of side [] h = All-nil (λ (e : Event). unit_of e ≡ side)
cells_of side (a ∷ cs) h =
    let P = λ (x : AirCell). x.side ≡ side in
    All-cons (λ (e : Event). unit_of e ≡ side) (event.Cell a) (map event.Cell cs) (All-head P a cs h) (cells_of side cs (All-tail P a cs h))

arrivals_of : (side : Side) (d : Document) (tick : ℤ) → AreEventsOf side (arrivals_at side (traffic_of d) tick)
arrivals_of side d tick =
    let t = traffic_of d in told_all (λ (e : Event). unit_of e ≡ side) side (λ a. refl) (λ at r. refl) (t.results side tick) (landing_at (landings_at side t) tick)

-- a unit's cells of a tick are its own
pub cells_own : (side : Side) (d : Document) (tick : ℤ) → AreOf side (cells_reported_at side d.config (traffic_of d) tick)
cells_own side d tick =
    let t = traffic_of d in
    tick_of_side side (known_at side d.config t.planned (all_arrivals (landings_at side t))) d.config.endpoints (start_of side d.config.delays tick)

-- so each of the two parts of a tick's events is one unit's
pub radio_own : (d : Document) (tick : ℤ) → AreEventsOf AtRu (radio_events d tick)
radio_own d tick =
    All-append (λ (e : Event). unit_of e ≡ AtRu) (map event.Cell (cells_reported_at AtRu d.config (traffic_of d) tick)) (arrivals_at AtRu (traffic_of d) tick)
    (cells_of AtRu _ (cells_own AtRu d tick)) (arrivals_of AtRu d tick)

pub intake_own : (d : Document) (tick : ℤ) → AreEventsOf AtDu (intake_events d tick)
intake_own d tick =
    All-append (λ (e : Event). unit_of e ≡ AtDu) (arrivals_at AtDu (traffic_of d) tick) (map event.Cell (cells_reported_at AtDu d.config (traffic_of d) tick))
    (arrivals_of AtDu d tick) (cells_of AtDu _ (cells_own AtDu d tick))

-- ---- what one unit's events leave of what was heard of the other

pub no_arrivals_of : (side other : Side) (earlier : List Arrival) (es : List Event) → is_of side other ≡ false → AreEventsOf other es → arrivals_heard side earlier es ≡ earlier
unfolding arrivals_heard
no_arrivals_of side other earlier [] apart all = refl
no_arrivals_of side other earlier (event.Cell a ∷ es) apart all =
    no_arrivals_of side other earlier es apart (All-tail (λ (e : Event). unit_of e ≡ other) (event.Cell a) es all)
no_arrivals_of side other earlier (event.Arrival at_side at frame ∷ es) apart all =
    let P = λ (e : Event). unit_of e ≡ other in
    let x : Arrival = record { at = at.0; frame = frame } in
    ap (λ (b : Bool). arrivals_heard side (let xs : List Arrival = if b then x ∷ earlier else earlier in xs) es)
    (ap (is_of side) (All-head P (event.Arrival at_side at frame) es all) ∙ apart)
    ∙ no_arrivals_of side other earlier es apart (All-tail P (event.Arrival at_side at frame) es all)
no_arrivals_of side other earlier (event.Delay at at_side id value ∷ es) apart all =
    no_arrivals_of side other earlier es apart (All-tail (λ (e : Event). unit_of e ≡ other) (event.Delay at at_side id value) es all)
no_arrivals_of side other earlier (event.Count at_side counter value ∷ es) apart all =
    no_arrivals_of side other earlier es apart (All-tail (λ (e : Event). unit_of e ≡ other) (event.Count at_side counter value) es all)

pub no_cells_of : (side other : Side) (es : List Event) → is_of side other ≡ false → AreEventsOf other es → cells_heard side es ≡ []
unfolding cells_heard
no_cells_of side other [] apart all = refl
no_cells_of side other (event.Cell a ∷ es) apart all =
    let P = λ (e : Event). unit_of e ≡ other in
    ap (λ (b : Bool). let cs : List AirCell = if b then a ∷ cells_heard side es else cells_heard side es in cs)
    (ap (is_of side) (All-head P (event.Cell a) es all) ∙ apart)
    ∙ no_cells_of side other es apart (All-tail P (event.Cell a) es all)
no_cells_of side other (event.Arrival at_side at frame ∷ es) apart all =
    no_cells_of side other es apart (All-tail (λ (e : Event). unit_of e ≡ other) (event.Arrival at_side at frame) es all)
no_cells_of side other (event.Delay at at_side id value ∷ es) apart all =
    no_cells_of side other es apart (All-tail (λ (e : Event). unit_of e ≡ other) (event.Delay at at_side id value) es all)
no_cells_of side other (event.Count at_side counter value ∷ es) apart all =
    no_cells_of side other es apart (All-tail (λ (e : Event). unit_of e ≡ other) (event.Count at_side counter value) es all)

pub arrivals_stay : (side other : Side) (told more : List Event) → is_of side other ≡ false → AreEventsOf other more
    → arrivals_heard side [] (told ++ more) ≡ arrivals_heard side [] told
arrivals_stay side other told more apart all =
    arrivals-append side [] told more ∙ no_arrivals_of side other (arrivals_heard side [] told) more apart all

pub cells_stay : (side other : Side) (told more : List Event) → is_of side other ≡ false → AreEventsOf other more
    → cells_heard side (told ++ more) ≡ cells_heard side told
cells_stay side other told more apart all =
    cells-append side told more ∙ ap (λ (cs : List AirCell). cells_heard side told ++ cs) (no_cells_of side other more apart all) ∙ append-nil (cells_heard side told)

-- ---- the radio unit is in step

-- also with events of the distributed unit after those with which it was
pub step_stays : (d : Document) (told more : List Event) (u : Ru) → AreEventsOf AtDu more → IsRadioInStep d told u → IsRadioInStep d (told ++ more) u
step_stays d told more u all step = record {
  history = step.history;
  stands = step.stands;
  arrivals = step.arrivals ∙ sym (arrivals_stay AtRu AtDu told more refl all);
  reported = step.reported ∙ sym (cells_stay AtRu AtDu told more refl all);
}

pub turn_step : (d : Document) (now : ℤ) (u : Ru) → AtRadioTurn d now u → IsRadioInStep d (events_before d now) u
turn_step d now u a = record { history = a.history; stands = a.stands; arrivals = a.turn.came; reported = a.turn.told }

-- memory ran out before the unit's first event of the tick
pub radio_rests : {A : Type 0} (grew : A → List Event → A → Type 0) (d : Document) (tick : ℤ) (u : Ru) (a : A) → AtRadioTurn d tick u → grew a [] a
    → RestsBehind grew (λ told. IsRadioInStep d told u) (events_before d tick) (radio_events d tick) a a
radio_rests grew d tick u a turn none = record {
  told = [];
  rest = radio_events d tick;
  is = refl;
  heard = none;
  step_is = subst (λ (es : List Event). IsRadioInStep d es u) (sym (append-nil (events_before d tick))) (turn_step d tick u turn);
}

-- ---- the events of a tick

-- first the radio unit's, and then the distributed unit's
pub tick_events : (d : Document) (tick : ℤ) → events_at d.config (traffic_of d) tick ≡ radio_events d tick ++ intake_events d tick
unfolding events_at
tick_events d tick =
    sym (append_assoc (map event.Cell (cells_reported_at AtRu d.config (traffic_of d) tick)) (arrivals_at AtRu (traffic_of d) tick) (intake_events d tick))

-- those before the next tick are those before the tick, and those of the tick
pub next_events : (d : Document) (tick : ℤ) → first_clock ≤ℤ tick → events_before d (tick +ℤ pos 1) ≡ events_before d tick ++ (radio_events d tick ++ intake_events d tick)
next_events d tick begun =
    events_go_on d.config (traffic_of d) tick begun ∙ ap (λ (es : List Event). events_before d tick ++ es) (tick_events d tick)
