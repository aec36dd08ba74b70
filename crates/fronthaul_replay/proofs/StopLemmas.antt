-- Where an air stopped, and what both units stand for then.
use Rattle.std.proofs.Common.{◌≡◌, ℤ, pos, ◌+ℤ◌, ◌≤ℤ◌, List, [], ◌++◌, ◌⊎◌, inl, inr, refl, sym, ap, ◌∙◌, append_assoc, append-nil, subst}
use Rattle.air_source.specs.Stops.{GrewSome, StopsIn}
use Rattle.air_source.specs.declared.events.Event.{Event}
use Rattle.air_source.specs.declared.events.Side.TheVariants.{Ru as AtRu, Du as AtDu}
use Rattle.du_intake.specs.Calls.{IntakeStandsFor}
use Rattle.du_intake.specs.declared.unit.Intake.{Intake}
use Rattle.fh_document.specs.declared.document.Document.{Document}
use Rattle.fronthaul_replay.specs.IntakeTurns.{AtIntakeTurn, IsIntakeInStep, planned_for}
use Rattle.document_traffic.specs.Replayed.{traffic_of}
use Rattle.unit_moments.specs.Stops.{HaltsBehind, RestsBehind, StopsBehind}
use Rattle.fronthaul_replay.specs.BoxTurns.{IsRadioInStep, events_before, intake_events, radio_events}
use Rattle.fronthaul_replay.proofs.BoxSteps.{tick_events}
use Rattle.unit_moments.proofs.StopLemmas as stop
use Rattle.replay_laws.specs.Events.{count_events, events, events_at, events_between}
use Rattle.replay_laws.specs.Moments.{end_of_time}
use Rattle.replay_laws.proofs.EventLemmas.{events_go_on}
use Rattle.unit_laws.proofs.HeardLemmas.{cells-none}
use Rattle.replay_laws.proofs.TickLemmas.{ticks_append}
use Rattle.ru_buffers.specs.Calls.{StandsFor}
use Rattle.ru_buffers.specs.declared.unit.Ru.{Ru}
use Rattle.unit_model.specs.Radiated.{first_clock}
use Rattle.unit_model.specs.Standing.{nothing_yet}
use Rattle.fronthaul_replay.specs.Replaying.{HaltsInStep, RestsInStep, StopsInStep, events_of}
use Rattle.fronthaul_replay.specs.Turns.{AtTurn}
use Rattle.fronthaul_replay.proofs.StepLemmas.{InStep, intake_in_step, radio_in_step, turn_in_step}
use Rattle.fh_base.proofs.Orders.{next_later as next_most, next_order}
use Rattle.unit_model.proofs.ArrivalLemmas.{arrivals-none}

-- the events from a tick on
ticks_after : (d : Document) (tick : ℤ) → first_clock ≤ℤ tick → tick ≤ℤ end_of_time
    → events_before d (end_of_time +ℤ pos 1)
    ≡ events_before d tick ++ (events_at d.config (traffic_of d) tick ++ events_between d.config (traffic_of d) (tick +ℤ pos 1) (end_of_time +ℤ pos 1))
ticks_after d tick begun ended =
    let c = d.config in
    let t = traffic_of d in
    let later = events_between c t (tick +ℤ pos 1) (end_of_time +ℤ pos 1) in
    ticks_append (events_at c t) first_clock (tick +ℤ pos 1) (end_of_time +ℤ pos 1) (next_most first_clock tick begun) (next_order tick end_of_time ended)
    ∙ ap (λ (es : List Event). es ++ later) (events_go_on c t tick begun)
    ∙ append_assoc (events_before d tick) (events_at c t tick) later

-- both units' parts of a tick were heard
pub heard_both : {A : Type 0} (grew next : A → List Event → A → Type 0) (d : Document) (tick : ℤ) (a b e : A) → stop.Follows grew next a (radio_events d tick) b
    → next b (intake_events d tick) e → grew a (events_at d.config (traffic_of d) tick) e
heard_both grew next d tick a b e follows second = subst (λ (es : List Event). grew a es e) (sym (tick_events d tick)) (follows e (intake_events d tick) second)

-- the counters of both units
abbrev pub counts_for : Document → List Event
counts_for d = count_events AtRu d.config (traffic_of d) ++ count_events AtDu d.config (traffic_of d)

pub all_events : (d : Document) → events_of d ≡ events_before d (end_of_time +ℤ pos 1) ++ counts_for d
unfolding events
all_events d = refl

module _ {A : Type 0} (grew : A → List Event → A → Type 0) (stopped : A → Event → A → Type 0) where
  -- ---- memory ran out before a tick's events, or after them

  pub rests_before : (d : Document) (tick : ℤ) (u : Ru) (i : Intake) (a : A) → grew a [] a → AtTurn d tick u i
      → HaltsBehind grew stopped (InStep d u i) (events_before d tick) (events_at d.config (traffic_of d) tick) a a
  rests_before d tick u i a none turn = inr (record {
    told = [];
    rest = events_at d.config (traffic_of d) tick;
    is = refl;
    heard = none;
    step_is = subst (InStep d u i) (sym (append-nil (events_before d tick))) (turn_in_step d tick u i turn);
  })

  pub rests_after : (d : Document) (tick : ℤ) (u : Ru) (i : Intake) (a e : A) → first_clock ≤ℤ tick → grew a (events_at d.config (traffic_of d) tick) e → AtTurn d (tick +ℤ pos 1) u i
      → HaltsBehind grew stopped (InStep d u i) (events_before d tick) (events_at d.config (traffic_of d) tick) a e
  rests_after d tick u i a e begun heard turn = inr (record {
    told = events_at d.config (traffic_of d) tick;
    rest = [];
    is = sym (append-nil (events_at d.config (traffic_of d) tick));
    heard = heard;
    step_is = subst (InStep d u i) (events_go_on d.config (traffic_of d) tick begun) (turn_in_step d (tick +ℤ pos 1) u i turn);
  })

  -- ---- in the radio unit's part of a tick

  pub stops_radio : (d : Document) (tick : ℤ) (u : Ru) (i : Intake) (a e : A) → AtIntakeTurn d tick i
      → StopsBehind grew stopped (λ told. IsRadioInStep d told u) (events_before d tick) (radio_events d tick) a e
      → StopsBehind grew stopped (InStep d u i) (events_before d tick) (events_at d.config (traffic_of d) tick) a e
  stops_radio d tick u i a e turn s =
      let earlier = events_before d tick in
      subst (λ (es : List Event). StopsBehind grew stopped (InStep d u i) earlier es a e) (sym (tick_events d tick))
      (stop.stops_ahead grew stopped (InStep d u i) earlier (radio_events d tick) (intake_events d tick) a e
      (stop.stops_moved grew stopped (λ told. IsRadioInStep d told u) (InStep d u i) earlier earlier (radio_events d tick) a e
      (λ told rest is step. radio_in_step d tick u i told rest turn is step) s))

  pub halts_radio : (d : Document) (tick : ℤ) (u : Ru) (i : Intake) (a e : A) → AtIntakeTurn d tick i
      → HaltsBehind grew stopped (λ told. IsRadioInStep d told u) (events_before d tick) (radio_events d tick) a e
      → HaltsBehind grew stopped (InStep d u i) (events_before d tick) (events_at d.config (traffic_of d) tick) a e
  halts_radio d tick u i a e turn s =
      let earlier = events_before d tick in
      subst (λ (es : List Event). HaltsBehind grew stopped (InStep d u i) earlier es a e) (sym (tick_events d tick))
      (stop.halts_ahead grew stopped (InStep d u i) earlier (radio_events d tick) (intake_events d tick) a e
      (stop.halts_moved grew stopped (λ told. IsRadioInStep d told u) (InStep d u i) earlier earlier (radio_events d tick) a e
      (λ told rest is step. radio_in_step d tick u i told rest turn is step) s))

  module _ (next : A → List Event → A → Type 0) where
    -- ---- in the distributed unit's part

    pub stops_intake : (d : Document) (tick : ℤ) (u : Ru) (i : Intake) (a b e : A) → stop.Follows grew next a (radio_events d tick) b
        → IsRadioInStep d (events_before d tick ++ radio_events d tick) u
        → StopsBehind next stopped (λ told. IsIntakeInStep d told i) (events_before d tick ++ radio_events d tick) (intake_events d tick) b e
        → StopsBehind grew stopped (InStep d u i) (events_before d tick) (events_at d.config (traffic_of d) tick) a e
    stops_intake d tick u i a b e follows radio s =
        let earlier = events_before d tick in
        let first = radio_events d tick in
        subst (λ (es : List Event). StopsBehind grew stopped (InStep d u i) earlier es a e) (sym (tick_events d tick))
        (stop.stops_behind grew stopped next (InStep d u i) earlier first (intake_events d tick) a b e follows
        (stop.stops_moved next stopped (λ told. IsIntakeInStep d told i) (InStep d u i) (earlier ++ first) (earlier ++ first) (intake_events d tick) b e
        (λ told rest is step. intake_in_step d tick u i told rest radio is step) s))

    pub halts_intake : (d : Document) (tick : ℤ) (u : Ru) (i : Intake) (a b e : A) → stop.Follows grew next a (radio_events d tick) b
        → IsRadioInStep d (events_before d tick ++ radio_events d tick) u
        → HaltsBehind next stopped (λ told. IsIntakeInStep d told i) (events_before d tick ++ radio_events d tick) (intake_events d tick) b e
        → HaltsBehind grew stopped (InStep d u i) (events_before d tick) (events_at d.config (traffic_of d) tick) a e
    halts_intake d tick u i a b e follows radio s =
        let earlier = events_before d tick in
        let first = radio_events d tick in
        subst (λ (es : List Event). HaltsBehind grew stopped (InStep d u i) earlier es a e) (sym (tick_events d tick))
        (stop.halts_behind grew stopped next (InStep d u i) earlier first (intake_events d tick) a b e follows
        (stop.halts_moved next stopped (λ told. IsIntakeInStep d told i) (InStep d u i) (earlier ++ first) (earlier ++ first) (intake_events d tick) b e
        (λ told rest is step. intake_in_step d tick u i told rest radio is step) s))

    -- ---- from a moment to the whole

    pub stops_whole : (step : List Event → Type 0) (d : Document) (tick : ℤ) (a b e : A) → first_clock ≤ℤ tick → tick ≤ℤ end_of_time → stop.Follows grew next a (events_before d tick) b
        → StopsBehind next stopped step (events_before d tick) (events_at d.config (traffic_of d) tick) b e
        → StopsBehind grew stopped step [] (events_before d (end_of_time +ℤ pos 1)) a e
    stops_whole step d tick a b e begun ended follows s =
        let earlier = events_before d tick in
        let these = events_at d.config (traffic_of d) tick in
        let later = events_between d.config (traffic_of d) (tick +ℤ pos 1) (end_of_time +ℤ pos 1) in
        subst (λ (es : List Event). StopsBehind grew stopped step [] es a e) (sym (ticks_after d tick begun ended))
        (stop.stops_behind grew stopped next step [] earlier (these ++ later) a b e follows (stop.stops_ahead next stopped step earlier these later b e s))

    pub halts_whole : (step : List Event → Type 0) (d : Document) (tick : ℤ) (a b e : A) → first_clock ≤ℤ tick → tick ≤ℤ end_of_time → stop.Follows grew next a (events_before d tick) b
        → HaltsBehind next stopped step (events_before d tick) (events_at d.config (traffic_of d) tick) b e
        → HaltsBehind grew stopped step [] (events_before d (end_of_time +ℤ pos 1)) a e
    halts_whole step d tick a b e begun ended follows s =
        let earlier = events_before d tick in
        let these = events_at d.config (traffic_of d) tick in
        let later = events_between d.config (traffic_of d) (tick +ℤ pos 1) (end_of_time +ℤ pos 1) in
        subst (λ (es : List Event). HaltsBehind grew stopped step [] es a e) (sym (ticks_after d tick begun ended))
        (stop.halts_behind grew stopped next step [] earlier (these ++ later) a b e follows (stop.halts_ahead next stopped step earlier these later b e s))

  -- ---- among all events

  stops_of : (d : Document) (u : Ru) (i : Intake) (a e : A) → StopsBehind grew stopped (InStep d u i) [] (events_of d) a e → StopsInStep grew stopped d u i a e
  stops_of d u i a e s =
      record { told = s.told; event = s.event; rest = s.rest; is = s.is; middle = s.middle; heard = s.heard; stop = s.stop; step = s.step_is }

  rests_of : (d : Document) (u : Ru) (i : Intake) (a e : A) → RestsBehind grew (InStep d u i) [] (events_of d) a e → RestsInStep grew d u i a e
  rests_of d u i a e s = record { told = s.told; rest = s.rest; is = s.is; heard = s.heard; step = s.step_is }

  halts_of : (d : Document) (u : Ru) (i : Intake) (a e : A) → HaltsBehind grew stopped (InStep d u i) [] (events_of d) a e → HaltsInStep grew stopped d u i a e
  halts_of d u i a e (inl s) = inl (stops_of d u i a e s)
  halts_of d u i a e (inr s) = inr (rests_of d u i a e s)

  pub stops_passing : (d : Document) (u : Ru) (i : Intake) (a e : A) → StopsBehind grew stopped (InStep d u i) [] (events_before d (end_of_time +ℤ pos 1)) a e
      → StopsInStep grew stopped d u i a e
  stops_passing d u i a e s =
      stops_of d u i a e (subst (λ (es : List Event). StopsBehind grew stopped (InStep d u i) [] es a e) (sym (all_events d))
      (stop.stops_ahead grew stopped (InStep d u i) [] (events_before d (end_of_time +ℤ pos 1)) (counts_for d) a e s))

  pub halts_passing : (d : Document) (u : Ru) (i : Intake) (a e : A) → HaltsBehind grew stopped (InStep d u i) [] (events_before d (end_of_time +ℤ pos 1)) a e
      → HaltsInStep grew stopped d u i a e
  halts_passing d u i a e s =
      halts_of d u i a e (subst (λ (es : List Event). HaltsBehind grew stopped (InStep d u i) [] es a e) (sym (all_events d))
      (stop.halts_ahead grew stopped (InStep d u i) [] (events_before d (end_of_time +ℤ pos 1)) (counts_for d) a e s))

  -- how far the air heard the events
  pub stops_cut : (d : Document) (u : Ru) (i : Intake) (a e : A) → StopsInStep grew stopped d u i a e → StopsIn grew stopped (events_of d) a e
  stops_cut d u i a e s = record { before = s.told; event = s.event; after = s.rest; is = s.is; middle = s.middle; heard = s.heard; stop = s.stop }

  pub halts_cut : (d : Document) (u : Ru) (i : Intake) (a e : A) → HaltsInStep grew stopped d u i a e → GrewSome grew (events_of d) a e ⊎ StopsIn grew stopped (events_of d) a e
  halts_cut d u i a e (inl s) = inr (stops_cut d u i a e s)
  halts_cut d u i a e (inr s) = inl (record { before = s.told; after = s.rest; is = s.is; heard = s.heard })

-- nothing was heard, and nothing landed
pub none_heard : {A : Type 0} (grew : A → List Event → A → Type 0) (d : Document) (u : Ru) (i : Intake) (a : A) → grew a [] a → StandsFor d.config u nothing_yet
    → IntakeStandsFor d.config (planned_for d) i nothing_yet → RestsInStep grew d u i a a
none_heard grew d u i a none radio intake = record {
  told = [];
  rest = events_of d;
  is = refl;
  heard = none;
  step = record {
    radio = record { history = nothing_yet; stands = radio; arrivals = sym (arrivals-none AtRu []); reported = sym (cells-none AtRu) };
    intake = record { history = nothing_yet; stands = intake; arrivals = sym (arrivals-none AtDu []); reported = sym (cells-none AtDu) };
  };
}
