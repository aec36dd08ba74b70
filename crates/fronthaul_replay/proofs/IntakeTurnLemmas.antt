-- The distributed unit's intake from one tick to the next moment, and over it.
use Rattle.std.proofs.Common.{◌≡◌, ℤ, pos, ◌+ℤ◌, ◌-ℤ◌, ◌≤ℤ◌, List, [], ◌++◌, map, refl, sym, ap, ap₂, ◌∙◌, subst, append_assoc}
use Rattle.std.specs.Int.Signed.{≤ℤ_refl}
use Rattle.air_source.specs.declared.events.AirCell.{AirCell}
use Rattle.air_source.specs.declared.events.Event.{Event}
use Rattle.air_source.specs.declared.events.Event.TheVariants.{Cell}
use Rattle.air_source.specs.declared.events.Side.TheVariants.{Ru, Du}
use Rattle.document_traffic.specs.Laws.{IsReplayable}
use Rattle.du_intake.specs.Calls.{IntakeStandsFor}
use Rattle.du_intake.specs.Units.{intake_due_of}
use Rattle.du_intake.specs.declared.unit.Intake.{Intake}
use Rattle.fh_document.specs.declared.document.Document.{Document}
use Rattle.document_traffic.specs.Replayed.{begun, landings_for, results_at, traffic_of}
use Rattle.document_traffic.proofs.ReplayedLemmas.{landings_are_replayed}
use Rattle.fronthaul_replay.specs.BoxTurns.{events_before, intake_events, radio_events}
use Rattle.fronthaul_replay.proofs.BoxSteps.{AreEventsOf, arrivals_stay, cells_own, cells_stay, next_events, radio_own}
use Rattle.replay_laws.specs.Events.{cells_reported_at}
use Rattle.unit_model.specs.Events.{arrivals_told}
use Rattle.unit_model.specs.Heard.{arrivals_heard, cells_heard}
use Rattle.replay_laws.specs.Moments.{arrivals_before, end_of_time, landing_at}
use Rattle.replay_laws.specs.Passing.{IsCalm, IsNextMoment, IsUnitMoment, due_from}
use Rattle.replay_laws.proofs.CameLemmas.{arrivals_go_on, calm_adds_nothing, none_yet}
use Rattle.replay_laws.proofs.EventLemmas.{events_wait}
use Rattle.unit_laws.proofs.HeardLemmas.{AreOf, cells-append, cells-arrivals, cells-none, cells-own}
use Rattle.unit_model.specs.declared.results.DelayResult.{DelayResult}
use Rattle.replay_laws.proofs.MomentLemmas.{due_at_moment, reported_at_moment, reported_before_moment}
use Rattle.fh_base.specs.Lists.{onto}
use Rattle.unit_model.specs.Meetings.{Arrival}
use Rattle.unit_model.specs.Radiated.{first_clock}
use Rattle.unit_model.specs.Reports.{du_known, du_reported}
use Rattle.unit_model.specs.Standing.{History, due, nothing_yet}
use Rattle.unit_laws.proofs.HistoryTicks.{clock_begins, last_of_next}
use Rattle.fh_base.proofs.Orders.{at_most, next_later, next_order}
use Rattle.fronthaul_replay.proofs.TurnLemmas as radio
use Rattle.fronthaul_replay.proofs.TurnLemmas.{events_none, moment_here, none_reported}
use Rattle.fronthaul_replay.specs.IntakeTurns.{IsIntakeTurn, planned_for}
use Rattle.unit_model.proofs.ArrivalLemmas.{arrivals-append, arrivals-cells, arrivals-none, arrivals-own}

-- ---- what an air heard of it in a moment: nothing of the radio unit's events, and of its own all

-- frames that landed at it and then its cells, after what was heard and the radio unit's events
pub arrivals_closed : (told more : List Event) (results : List (List DelayResult)) (xs : List Arrival) (cs : List AirCell) → AreEventsOf Ru more
    → arrivals_heard Du [] ((told ++ more) ++ (arrivals_told Du results xs ++ map Cell cs)) ≡ onto (arrivals_heard Du [] told) xs
arrivals_closed told more results xs cs other =
    let earlier = arrivals_heard Du [] told in
    let landed = arrivals_told Du results xs in
    arrivals-append Du [] (told ++ more) (landed ++ map Cell cs)
    ∙ ap (λ (e : List Arrival). arrivals_heard Du e (landed ++ map Cell cs)) (arrivals_stay Du Ru told more refl other)
    ∙ arrivals-append Du earlier landed (map Cell cs)
    ∙ arrivals-cells Du (arrivals_heard Du earlier landed) cs
    ∙ arrivals-own Du earlier results xs

pub cells_closed : (told more : List Event) (results : List (List DelayResult)) (xs : List Arrival) (cs : List AirCell) → AreEventsOf Ru more → AreOf Du cs
    → cells_heard Du ((told ++ more) ++ (arrivals_told Du results xs ++ map Cell cs)) ≡ cells_heard Du told ++ cs
cells_closed told more results xs cs other own =
    let landed = arrivals_told Du results xs in
    cells-append Du (told ++ more) (landed ++ map Cell cs)
    ∙ ap₂ ◌++◌ (cells_stay Du Ru told more refl other) (cells-append Du landed (map Cell cs) ∙ ap₂ ◌++◌ (cells-arrivals Du Du results xs) (cells-own Du cs own))

-- ---- the next moment

due_same : (d : Document) (now : ℤ) (h : History) → IsIntakeTurn d now h → (to : ℤ)
    → due_from Du d.config (planned_for d) (landings_for Du d) now to ≡ intake_due_of d.config (planned_for d) h to
due_same d now h turn to =
    let c = d.config in
    sym (ap₂ (λ (xs : List Arrival) (rs : List AirCell). due Du c.delays c.endpoints (du_known c (planned_for d) xs) rs to) turn.arrivals turn.reported)

-- where nothing is due up to a time, nothing is up to an earlier one
pub due_less : (d : Document) (h : History) (a b : ℤ) → a ≤ℤ b → intake_due_of d.config (planned_for d) h b ≡ [] → intake_due_of d.config (planned_for d) h a ≡ []
due_less d h a b order none = radio.due_less Du d.config.delays d.config.endpoints (du_known d.config (planned_for d) h.arrivals) h.reported a b order none

-- nothing lands at the distributed unit before a tick, and nothing is due at it
pub unit_waits : (d : Document) (now tick : ℤ) (h : History) → IsReplayable d → IsIntakeTurn d now h → IsCalm (landings_for Du d) now tick
    → intake_due_of d.config (planned_for d) h (tick -ℤ pos 1) ≡ [] → IsUnitMoment Du d.config (traffic_of d) now tick
unit_waits d now tick h doc turn calm none = record { landings_are = landings_are_replayed d Du doc; calm = calm; quiet = due_same d now h turn (tick -ℤ pos 1) ∙ none }

-- what is at the start of a tick is at the start of the next moment
pub skip : (d : Document) (now tick : ℤ) (h : History) → IsIntakeTurn d now h → IsNextMoment d.config (traffic_of d) now tick → IsIntakeTurn d tick h
skip d now tick h turn next =
    let c = d.config in
    let t = traffic_of d in
    let unit = next.units Du in
    record {
      begun = at_most first_clock now tick turn.begun next.order;
      ended = next.ended;
      arrivals = turn.arrivals ∙ sym (calm_adds_nothing (landings_for Du d) now tick turn.begun next.order unit.calm);
      reported = turn.reported ∙ reported_before_moment Du c t now tick next;
      quiet = sym (due_same d now h turn (tick -ℤ pos 1)) ∙ unit.quiet;
      came = turn.came ∙ ap (arrivals_heard Du []) (sym (events_wait c t now tick next));
      told = turn.told ∙ ap (cells_heard Du) (sym (events_wait c t now tick next));
    }

-- ---- the moment itself

-- all that has landed once the tick's frames have
came_here : (d : Document) (tick : ℤ) (h : History) → IsIntakeTurn d tick h → onto h.arrivals (landing_at (landings_for Du d) tick) ≡ arrivals_before (landings_for Du d) (tick +ℤ pos 1)
came_here d tick h turn =
    ap (λ (e : List Arrival). onto e (landing_at (landings_for Du d) tick)) turn.arrivals ∙ sym (arrivals_go_on (landings_for Du d) tick turn.begun)

-- what is due then are the cells of the tick
pub due_here : (d : Document) (tick : ℤ) (h : History) (xs : List Arrival) → IsReplayable d → IsIntakeTurn d tick h → tick ≤ℤ end_of_time
    → xs ≡ onto h.arrivals (landing_at (landings_for Du d) tick)
    → due Du d.config.delays d.config.endpoints (du_known d.config (planned_for d) xs) h.reported tick ≡ cells_reported_at Du d.config (traffic_of d) tick
due_here d tick h xs doc turn ended came =
    let c = d.config in
    ap₂ (λ (xs : List Arrival) (rs : List AirCell). due Du c.delays c.endpoints (du_known c (planned_for d) xs) rs tick) (came ∙ came_here d tick h turn) turn.reported
    ∙ due_at_moment Du c (traffic_of d) tick tick (moment_here d tick doc turn.begun turn.ended) ended

-- ---- over the moment

pub after : (d : Document) (tick : ℤ) (h k : History) → IsReplayable d → IsIntakeTurn d tick h → tick ≤ℤ end_of_time
    → k.arrivals ≡ onto h.arrivals (landing_at (landings_for Du d) tick) → k.reported ≡ h.reported ++ cells_reported_at Du d.config (traffic_of d) tick
    → intake_due_of d.config (planned_for d) k tick ≡ [] → IsIntakeTurn d (tick +ℤ pos 1) k
after d tick h k doc turn ended came told none =
    let c = d.config in
    let t = traffic_of d in
    let cells = cells_reported_at Du c t tick in
    let xs = landing_at (landings_for Du d) tick in
    let earlier = events_before d tick in
    let other = radio_own d tick in
    let then = next_events d tick turn.begun ∙ sym (append_assoc earlier (radio_events d tick) (intake_events d tick)) in
    record {
      begun = next_later first_clock tick turn.begun;
      ended = next_order tick end_of_time ended;
      arrivals = came ∙ came_here d tick h turn;
      reported =
          told ∙ ap (λ (rs : List AirCell). rs ++ cells) turn.reported
          ∙ reported_at_moment Du c t tick tick (moment_here d tick doc turn.begun turn.ended) ended
          ∙ ap (λ (u : ℤ). du_reported c (planned_for d) (arrivals_before (landings_for Du d) (tick +ℤ pos 1)) u) (sym (last_of_next tick));
      quiet = subst (λ (u : ℤ). intake_due_of c (planned_for d) k u ≡ []) (sym (last_of_next tick)) none;
      came =
          came ∙ ap (λ (e : List Arrival). onto e xs) turn.came
          ∙ sym (ap (arrivals_heard Du []) then ∙ arrivals_closed earlier (radio_events d tick) (results_at d Du tick) xs cells other);
      told =
          told ∙ ap (λ (rs : List AirCell). rs ++ cells) turn.told
          ∙ sym (ap (cells_heard Du) then ∙ cells_closed earlier (radio_events d tick) (results_at d Du tick) xs cells other (cells_own Du d tick));
    }

-- ---- the start

pub start : (d : Document) (u : Intake) → IntakeStandsFor d.config (planned_for d) u nothing_yet → IsIntakeTurn d first_clock nothing_yet
start d u stands =
    let c = d.config in
    record {
      begun = ≤ℤ_refl first_clock;
      ended = clock_begins;
      arrivals = sym (none_yet (landings_for Du d) first_clock (≤ℤ_refl first_clock));
      reported = sym (none_reported Du c.delays c.endpoints (du_known c (planned_for d) (arrivals_before (landings_for Du d) first_clock)));
      quiet = stands.kept.past;
      came = sym (ap (arrivals_heard Du []) (events_none d) ∙ arrivals-none Du []);
      told = sym (ap (cells_heard Du) (events_none d) ∙ cells-none Du);
    }
