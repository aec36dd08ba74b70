-- Where an air stopped, and what the radio unit stands for then.
use Rattle.std.proofs.Common.{◌≡◌, ℤ, ◌≤ℤ◌, List, [], ◌∷◌, ◌++◌, refl, sym, ap, ap₂, ◌∙◌, append_assoc, append-nil, subst}
use Rattle.std.specs.Prelude.{map}
use Rattle.std.proofs.lemmas.List.{map-append}
use Rattle.air_source.specs.declared.events.AirCell.{AirCell}
use Rattle.air_source.specs.declared.events.Event.{Event}
use Rattle.air_source.specs.declared.events.Event.TheVariants.{Cell}
use Rattle.air_source.specs.declared.events.Side.TheVariants.{Ru as AtRu}
use Rattle.document_traffic.specs.Laws.{IsReplayable}
use Rattle.fh_document.specs.declared.document.Document.{Document}
use Rattle.document_traffic.specs.Doings.{Doings}
use Rattle.document_traffic.specs.Replayed.{landings_for, results_at}
use Rattle.unit_laws.proofs.HeardLemmas.{AreOf, cells-append, cells-arrivals, cells-own, due_of_side}
use Rattle.unit_model.specs.Events.{arrivals_told}
use Rattle.unit_model.specs.Heard.{arrivals_heard, cells_heard}
use Rattle.replay_laws.specs.Moments.{end_of_time, landing_at}
use Rattle.ru_buffers.specs.Calls.{StandsFor, StopsAtDue, RadioMayTake}
use Rattle.ru_buffers.specs.Reporting.{due_of}
use Rattle.ru_buffers.specs.declared.unit.Ru.{Ru}
use Rattle.unit_model.specs.Meetings.{Arrival}
use Rattle.unit_model.specs.Reports.{ru_known}
use Rattle.unit_model.specs.Standing.{History, at_clock, heard}
use Rattle.unit_laws.proofs.HistoryLists.{front_empty}
use Rattle.window_config.specs.declared.config.Config.{Config}
use Rattle.unit_moments.specs.Heard.{HeardAnyhow}
use Rattle.unit_moments.specs.Landing.{HasTaken, told_of_frames}
use Rattle.document_traffic.specs.Settings.{compensation_of}
use Rattle.unit_moments.specs.Stops.{HaltsBehind, StopsBehind}
use Rattle.fronthaul_replay.specs.BoxTurns.{IsRadioInStep, IsRadioTurn, events_before, radio_events}
use Rattle.unit_moments.proofs.StopLemmas.{Follows, halts_behind, halts_moved, stops_behind, stops_moved}
use Rattle.fronthaul_replay.proofs.TurnLemmas.{due_here}
use Rattle.unit_laws.proofs.AddedLemmas.{in_front}
use Rattle.unit_model.proofs.ArrivalLemmas.{arrivals-append, arrivals-cells}

-- ---- the radio unit's cells

-- the unit is in step with the events before a tick and with those of it that were heard
abbrev InStep : Document → Ru → List Event → Type 0
InStep d u told = IsRadioInStep d told u

-- what is told of the frames of a tick
abbrev told_at : Document → ℤ → List Event
told_at d tick = arrivals_told AtRu (results_at d AtRu tick) (landing_at (landings_for AtRu d) tick)

-- the events of the tick, by the cells that are due
events_are : (d : Document) (tick : ℤ) (h : History) → IsReplayable d → IsRadioTurn d tick h → tick ≤ℤ end_of_time
    → radio_events d tick ≡ map Cell (due_of d.config h tick) ++ told_at d tick
events_are d tick h doc turn ended = ap (λ (cs : List AirCell). map Cell cs ++ told_at d tick) (sym (due_here d tick h doc turn ended))

cells_about : (before now : List AirCell) (c : AirCell) (rest : List AirCell) (more : List Event) → before ≡ now ++ c ∷ rest
    → map Cell before ++ more ≡ map Cell now ++ Cell c ∷ (map Cell rest ++ more)
cells_about before now c rest more is =
    ap (λ (cs : List AirCell). map Cell cs ++ more) is ∙ ap (λ (es : List Event). es ++ more) (map-append Cell now (c ∷ rest))
    ∙ append_assoc (map Cell now) (Cell c ∷ map Cell rest) more

-- the cells that are due are the radio unit's
due_own : (d : Document) (tick : ℤ) (h : History) → AreOf AtRu (due_of d.config h tick)
due_own d tick h = due_of_side AtRu d.config.delays d.config.endpoints (ru_known d.config h.arrivals) h.reported tick

-- what has arrived and was reported before a tick, with some cells of the tick after it
pub arrived_before : (d : Document) (tick : ℤ) (h : History) (cs : List AirCell) → IsRadioTurn d tick h → h.arrivals ≡ arrivals_heard AtRu [] (events_before d tick ++ map Cell cs)
arrived_before d tick h cs turn =
    let earlier = events_before d tick in
    turn.came ∙ sym (arrivals-append AtRu [] earlier (map Cell cs) ∙ arrivals-cells AtRu (arrivals_heard AtRu [] earlier) cs)

reported_before : (d : Document) (tick : ℤ) (h : History) (cs : List AirCell) → IsRadioTurn d tick h → AreOf AtRu cs → h.reported ++ cs ≡ cells_heard AtRu (events_before d tick ++ map Cell cs)
reported_before d tick h cs turn own =
    ap₂ (λ (rs ts : List AirCell). rs ++ ts) turn.told (sym (cells-own AtRu cs own)) ∙ sym (cells-append AtRu (events_before d tick) (map Cell cs))

cells_step : (d : Document) (tick : ℤ) (h k : History) (cs : List AirCell) (u : Ru) → IsRadioTurn d tick h → AreOf AtRu cs → StandsFor d.config u k
    → k.arrivals ≡ h.arrivals → k.reported ≡ h.reported ++ cs → IsRadioInStep d (events_before d tick ++ map Cell cs) u
cells_step d tick h k cs u turn own stands came told = record {
  history = k;
  stands = stands;
  arrivals = came ∙ arrived_before d tick h cs turn;
  reported = told ∙ reported_before d tick h cs turn own;
}

pub stops_due : {A : Type 0} (grew : Config → List Event → A → List Event → A → Type 0) (stopped : A → Event → A → Type 0) (d : Document) (tick : ℤ) (h : History) (u : Ru) (a b : A)
    → IsReplayable d → IsRadioTurn d tick h → tick ≤ℤ end_of_time → StopsAtDue (HeardAnyhow grew) stopped d.config h tick u a b
    → StopsBehind (grew d.config (events_before d tick)) stopped (InStep d u) (events_before d tick) (radio_events d tick) a b
stops_due grew stopped d tick h u a b doc turn ended s =
    let more = told_at d tick in
    let own = in_front (λ (a : AirCell). a.side ≡ AtRu) s.told (s.cell ∷ s.rest) (subst (AreOf AtRu) s.is (due_own d tick h)) in
    record {
      told = map Cell s.told;
      event = Cell s.cell;
      rest = map Cell s.rest ++ more;
      is = events_are d tick h doc turn ended ∙ cells_about (due_of d.config h tick) s.told s.cell s.rest more s.is;
      middle = s.middle;
      heard = s.heard_is d.config (events_before d tick);
      stop = s.stop;
      step_is = cells_step d tick h (heard h s.told) s.told u turn own s.stands refl refl;
    }

-- ---- while frames land

-- what was heard after the cells of the tick
frames_step : (d : Document) (tick : ℤ) (x : Doings) (h : History) (xs : List Arrival) (u : Ru) → IsRadioTurn d tick h → (told rest : List Event) → told_of_frames AtRu (compensation_of d AtRu) tick x xs ≡ told ++ rest
    → HasTaken (RadioMayTake u d.config [] tick) AtRu (at_clock (heard h (due_of d.config h tick)) tick) told
    → IsRadioInStep d ((events_before d tick ++ map Cell (due_of d.config h tick)) ++ told) u
frames_step d tick x h xs u turn told rest is taken =
    let cells = due_of d.config h tick in
    let earlier = events_before d tick in
    let none : cells_heard AtRu told ≡ [] =
    front_empty (cells_heard AtRu told) (cells_heard AtRu rest)
    (sym (ap (cells_heard AtRu) is ∙ cells-append AtRu told rest) ∙ cells-arrivals AtRu AtRu _ xs) in
    record {
      history = taken.history;
      stands = taken.stands_is.stands;
      arrivals = taken.arrivals ∙ ap (λ (e : List Arrival). arrivals_heard AtRu e told) (arrived_before d tick h cells turn) ∙ sym (arrivals-append AtRu [] (earlier ++ map Cell cells) told);
      reported = taken.reported ∙ reported_before d tick h cells turn (due_own d tick h) ∙ sym (append-nil (cells_heard AtRu (earlier ++ map Cell cells)))
          ∙ ap (λ (cs : List AirCell). cells_heard AtRu (earlier ++ map Cell cells) ++ cs) (sym none) ∙ sym (cells-append AtRu (earlier ++ map Cell cells) told);
    }

module _ {A : Type 0} (grew next : A → List Event → A → Type 0) (stopped : A → Event → A → Type 0)
    (d : Document) (tick : ℤ) (x : Doings) (h : History) (xs : List Arrival) (u : Ru) (a b e : A)
    (doc : IsReplayable d) (turn : IsRadioTurn d tick h) (ended : tick ≤ℤ end_of_time) (told_is : told_of_frames AtRu (compensation_of d AtRu) tick x xs ≡ told_at d tick)
    (follows : Follows grew next a (map Cell (due_of d.config h tick)) b) where
  abbrev due_cells : List Event
  due_cells = map Cell (due_of d.config h tick)

  abbrev Taken : List Event → Type 0
  Taken told = HasTaken (RadioMayTake u d.config [] tick) AtRu (at_clock (heard h (due_of d.config h tick)) tick) told

  all_are : due_cells ++ told_of_frames AtRu (compensation_of d AtRu) tick x xs ≡ radio_events d tick
  all_are = ap (λ (es : List Event). due_cells ++ es) told_is ∙ sym (events_are d tick h doc turn ended)

  -- the air stopped in one of the frames, or in a delay that one made known
  pub stops_landing : StopsBehind next stopped Taken [] (told_of_frames AtRu (compensation_of d AtRu) tick x xs) b e
      → StopsBehind grew stopped (InStep d u) (events_before d tick) (radio_events d tick) a e
  stops_landing s =
      subst (λ (es : List Event). StopsBehind grew stopped (InStep d u) (events_before d tick) es a e) all_are
      (stops_behind grew stopped next (InStep d u) (events_before d tick) due_cells (told_of_frames AtRu (compensation_of d AtRu) tick x xs) a b e follows
      (stops_moved next stopped Taken (InStep d u) [] (events_before d tick ++ due_cells) (told_of_frames AtRu (compensation_of d AtRu) tick x xs) b e (λ told rest is taken. frames_step d tick x h xs u turn told rest is taken) s))

  -- or memory ran out among them
  pub halts_landing : HaltsBehind next stopped Taken [] (told_of_frames AtRu (compensation_of d AtRu) tick x xs) b e
      → HaltsBehind grew stopped (InStep d u) (events_before d tick) (radio_events d tick) a e
  halts_landing s =
      subst (λ (es : List Event). HaltsBehind grew stopped (InStep d u) (events_before d tick) es a e) all_are
      (halts_behind grew stopped next (InStep d u) (events_before d tick) due_cells (told_of_frames AtRu (compensation_of d AtRu) tick x xs) a b e follows
      (halts_moved next stopped Taken (InStep d u) [] (events_before d tick ++ due_cells) (told_of_frames AtRu (compensation_of d AtRu) tick x xs) b e (λ told rest is taken. frames_step d tick x h xs u turn told rest is taken) s))
