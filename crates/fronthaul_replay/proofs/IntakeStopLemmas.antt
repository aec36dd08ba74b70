-- Where an air stopped in the distributed unit's part of a moment, and what the intake stands for then.
use Rattle.std.proofs.Common.{◌≡◌, ℤ, ◌≤ℤ◌, List, [], ◌∷◌, ◌++◌, refl, sym, ap, ◌∙◌, append_assoc, append-nil, subst}
use Rattle.std.specs.Prelude.{map}
use Rattle.std.proofs.lemmas.List.{map-append}
use Rattle.air_source.specs.declared.events.AirCell.{AirCell}
use Rattle.air_source.specs.declared.events.Event.{Event}
use Rattle.air_source.specs.declared.events.Event.TheVariants.{Cell}
use Rattle.air_source.specs.declared.events.Side.TheVariants.{Ru as AtRu, Du as AtDu}
use Rattle.document_traffic.specs.Replayed.{landings_for, results_at, traffic_of}
use Rattle.du_intake.specs.Closing.{IntakeStopsAtDue}
use Rattle.du_intake.specs.Units.{intake_due_of}
use Rattle.du_intake.specs.declared.unit.Intake.{Intake}
use Rattle.fh_document.specs.declared.document.Document.{Document}
use Rattle.document_traffic.specs.Laws.{IsReplayable}
use Rattle.fronthaul_replay.proofs.BoxSteps.{arrivals_stay, cells_stay, radio_own}
use Rattle.unit_moments.proofs.StopLemmas.{Follows, halts_ahead, halts_moved, stops_ahead, stops_moved}
use Rattle.unit_moments.specs.Stops.{HaltsBehind, RestsBehind, StopsBehind}
use Rattle.fronthaul_replay.specs.BoxTurns.{events_before, intake_events, radio_events}
use Rattle.replay_laws.specs.Events.{arrivals_at, cells_reported_at}
use Rattle.unit_model.specs.Heard.{arrivals_heard, cells_heard}
use Rattle.replay_laws.specs.Moments.{end_of_time, landing_at}
use Rattle.unit_laws.proofs.HeardLemmas.{AreOf, cells-append, cells-arrivals, due_of_side}
use Rattle.fh_base.specs.Lists.{onto}
use Rattle.unit_model.specs.Meetings.{Arrival}
use Rattle.unit_model.specs.Reports.{du_known}
use Rattle.unit_model.specs.Standing.{History, due, heard}
use Rattle.fronthaul_replay.specs.IntakeTurns.{heard_before, AtIntakeTurn, IsIntakeInStep, IsIntakeTurn, planned_for}
use Rattle.du_intake.specs.Calls.{IntakeMayTake}
use Rattle.unit_moments.specs.Landing.{HasTaken, told_of_frames}
use Rattle.document_traffic.specs.Settings.{compensation_of}
use Rattle.document_traffic.specs.Doings.{Doings}
use Rattle.unit_laws.proofs.HistoryLists.{front_empty}
use Rattle.fronthaul_replay.proofs.IntakeTurnLemmas.{arrivals_closed, cells_closed, due_here}
use Rattle.unit_laws.proofs.AddedLemmas.{in_front}
use Rattle.unit_model.proofs.ArrivalLemmas.{arrivals-append}

-- ---- before its first event

-- the intake has the frames that were heard before its part of the moment, and is in step with what was heard
pub came_before : (d : Document) (tick : ℤ) (u : Intake) → (a : AtIntakeTurn d tick u) → a.history.arrivals ≡ arrivals_heard AtDu [] (heard_before d tick)
came_before d tick u a = a.turn.came ∙ sym (arrivals_stay AtDu AtRu (events_before d tick) (radio_events d tick) refl (radio_own d tick))

in_step_before : (d : Document) (tick : ℤ) (u : Intake) → AtIntakeTurn d tick u → IsIntakeInStep d (heard_before d tick) u
in_step_before d tick u a = record {
  history = a.history;
  stands = a.stands;
  arrivals = came_before d tick u a;
  reported = a.turn.told ∙ sym (cells_stay AtDu AtRu (events_before d tick) (radio_events d tick) refl (radio_own d tick));
}

pub rests_before : {A : Type 0} (grew : A → List Event → A → Type 0) (d : Document) (tick : ℤ) (u : Intake) (a : A) → AtIntakeTurn d tick u → grew a [] a
    → RestsBehind grew (λ told. IsIntakeInStep d told u) (heard_before d tick) (intake_events d tick) a a
rests_before grew d tick u a turn none = record {
  told = [];
  rest = intake_events d tick;
  is = refl;
  heard = none;
  step_is = subst (λ (es : List Event). IsIntakeInStep d es u) (sym (append-nil (heard_before d tick))) (in_step_before d tick u turn);
}

-- ---- while frames land

-- the intake is in step with what was heard before, and with the frames that it took
frames_step : (d : Document) (tick : ℤ) (x : Doings) (u v : Intake) (xs : List Arrival) → (a : AtIntakeTurn d tick u) → (told rest : List Event)
    → told_of_frames AtDu (compensation_of d AtDu) tick x xs ≡ told ++ rest → HasTaken (IntakeMayTake v d.config (planned_for d) tick) AtDu a.history told
    → IsIntakeInStep d (heard_before d tick ++ told) v
frames_step d tick x u v xs a told rest is taken =
    let earlier = heard_before d tick in
    let other = radio_own d tick in
    let none : cells_heard AtDu told ≡ [] =
    front_empty (cells_heard AtDu told) (cells_heard AtDu rest)
    (sym (ap (cells_heard AtDu) is ∙ cells-append AtDu told rest) ∙ cells-arrivals AtDu AtDu _ xs) in
    record {
      history = taken.history;
      stands = taken.stands_is.stands;
      arrivals = taken.arrivals
          ∙ ap (λ (e : List Arrival). arrivals_heard AtDu e told) (a.turn.came ∙ sym (arrivals_stay AtDu AtRu (events_before d tick) (radio_events d tick) refl other))
          ∙ sym (arrivals-append AtDu [] earlier told);
      reported = taken.reported ∙ a.turn.told ∙ sym (cells_stay AtDu AtRu (events_before d tick) (radio_events d tick) refl other)
          ∙ sym (cells-append AtDu earlier told ∙ ap (λ (cs : List AirCell). cells_heard AtDu earlier ++ cs) none ∙ append-nil (cells_heard AtDu earlier));
    }

module _ {A : Type 0} (grew : A → List Event → A → Type 0) (stopped : A → Event → A → Type 0) (d : Document) (tick : ℤ) (x : Doings) (u v : Intake) (xs : List Arrival) (a e : A)
    (at : AtIntakeTurn d tick u) (told_is : told_of_frames AtDu (compensation_of d AtDu) tick x xs ≡ arrivals_at AtDu (traffic_of d) tick) where
  abbrev Taken : List Event → Type 0
  Taken told = HasTaken (IntakeMayTake v d.config (planned_for d) tick) AtDu at.history told

  abbrev step : List Event → Type 0
  step told = IsIntakeInStep d told v

  abbrev told_here : List Event
  told_here = told_of_frames AtDu (compensation_of d AtDu) tick x xs

  abbrev cells : List Event
  cells = map Cell (cells_reported_at AtDu d.config (traffic_of d) tick)

  all_are : told_here ++ cells ≡ intake_events d tick
  all_are = ap (λ (es : List Event). es ++ cells) told_is

  pub stops_landing : StopsBehind grew stopped Taken [] told_here a e → StopsBehind grew stopped step (heard_before d tick) (intake_events d tick) a e
  stops_landing s =
      subst (λ (es : List Event). StopsBehind grew stopped step (heard_before d tick) es a e) all_are
      (stops_ahead grew stopped step (heard_before d tick) told_here cells a e
      (stops_moved grew stopped Taken step [] (heard_before d tick) told_here a e (λ told rest is taken. frames_step d tick x u v xs at told rest is taken) s))

  pub halts_landing : HaltsBehind grew stopped Taken [] told_here a e → HaltsBehind grew stopped step (heard_before d tick) (intake_events d tick) a e
  halts_landing s =
      subst (λ (es : List Event). HaltsBehind grew stopped step (heard_before d tick) es a e) all_are
      (halts_ahead grew stopped step (heard_before d tick) told_here cells a e
      (halts_moved grew stopped Taken step [] (heard_before d tick) told_here a e (λ told rest is taken. frames_step d tick x u v xs at told rest is taken) s))

-- ---- in a cell

cells_about : (front : List Event) (before told : List AirCell) (x : AirCell) (rest : List AirCell) → before ≡ told ++ x ∷ rest
    → front ++ map Cell before ≡ (front ++ map Cell told) ++ Cell x ∷ map Cell rest
cells_about front before told x rest is = rw is (simp (map-append, append_assoc))

-- what the intake has reported and what is due, once the tick's frames have landed
pub record HasLanded (d : Document) (tick : ℤ) (h k : History) : Type 0 where
  pub replayable : IsReplayable d
  pub turn : IsIntakeTurn d tick h
  pub ended : tick ≤ℤ end_of_time
  pub came : k.arrivals ≡ onto h.arrivals (landing_at (landings_for AtDu d) tick)
  pub told : k.reported ≡ h.reported

pub cells_then : (d : Document) (tick : ℤ) (h k : History) → HasLanded d tick h k → intake_due_of d.config (planned_for d) k tick ≡ cells_reported_at AtDu d.config (traffic_of d) tick
cells_then d tick h k l =
    ap (λ (rs : List AirCell). due AtDu d.config.delays d.config.endpoints (du_known d.config (planned_for d) k.arrivals) rs tick) l.told
    ∙ due_here d tick h k.arrivals l.replayable l.turn l.ended l.came

pub stops_closing : {A : Type 0} (grew next : A → List Event → A → Type 0) (stopped : A → Event → A → Type 0)
    (d : Document) (tick : ℤ) (h k : History) (u : Intake) (a b e : A) → HasLanded d tick h k
    → Follows grew next a (arrivals_at AtDu (traffic_of d) tick) b
    → IntakeStopsAtDue next stopped d.config (planned_for d) k tick u b e
    → StopsBehind grew stopped (λ told. IsIntakeInStep d told u) (heard_before d tick) (intake_events d tick) a e
stops_closing grew next stopped d tick h k u a b e l follows s =
    let c = d.config in
    let t = traffic_of d in
    let xs = landing_at (landings_for AtDu d) tick in
    let results = results_at d AtDu tick in
    let front = arrivals_at AtDu t tick in
    let other = radio_own d tick in
    let own = in_front (λ (x : AirCell). x.side ≡ AtDu) s.told (s.cell ∷ s.rest)
    (subst (AreOf AtDu) s.is (due_of_side AtDu c.delays c.endpoints (du_known c (planned_for d) k.arrivals) k.reported tick)) in
    record {
      told = front ++ map Cell s.told;
      event = Cell s.cell;
      rest = map Cell s.rest;
      is = cells_about front (cells_reported_at AtDu c t tick) s.told s.cell s.rest (sym (cells_then d tick h k l) ∙ s.is);
      middle = s.middle;
      heard = follows s.middle (map Cell s.told) s.heard_is;
      stop = s.stop;
      step_is = record {
        history = heard k s.told;
        stands = s.stands;
        arrivals =
            l.came ∙ ap (λ (e : List Arrival). onto e xs) l.turn.came
            ∙ sym (arrivals_closed (events_before d tick) (radio_events d tick) results xs s.told other);
        reported =
            ap (λ (rs : List AirCell). rs ++ s.told) (l.told ∙ l.turn.told)
            ∙ sym (cells_closed (events_before d tick) (radio_events d tick) results xs s.told other own);
      };
    }
