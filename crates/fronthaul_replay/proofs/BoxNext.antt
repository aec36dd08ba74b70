-- From one tick to the next moment: what callers need of the distributed unit and of what is received at it.
use Rattle.std.proofs.Common.{◌≡◌, ℤ, pos, ◌+ℤ◌, ◌-ℤ◌, ◌≤ℤ◌, ◌<ℤ◌, Bool, List, [], ◌∷◌, ◌++◌, length, refl, sym, ap, ◌∙◌, subst, arith}
use Rattle.std.specs.Prelude.{All, cond, map}
use Rattle.std.proofs.lemmas.Int.{ints}
use Rattle.std.proofs.lemmas.List.Elements.{All-head, All-map, All-tail, All-weaker}
use Rattle.std.specs.Int.Signed.{≤ℤ_refl, <ℤ-≤ℤ_trans, clash_ℤ}
use Rattle.air_source.specs.declared.events.Event.{Event}
use Rattle.air_source.specs.declared.events.Side.{Side}
use Rattle.air_source.specs.declared.events.Side.TheVariants.{Ru as AtRu, Du as AtDu}
use Rattle.air_source.specs.declared.links.LinkFrame.{LinkFrame}
use Rattle.air_source.specs.declared.places.RePlace.{RePlace}
use Rattle.bfp_codec.specs.declared.samples.Wide.{Wide}
use Rattle.document_traffic.specs.Landing.{antenna_for, leaving_answer}
use Rattle.document_traffic.specs.Laws.{IsReplayable}
use Rattle.document_traffic.specs.Sending.{Leaving, leaving_of}
use Rattle.du_intake.specs.Calls.{IntakeStandsFor}
use Rattle.du_intake.specs.Units.{intake_due_of}
use Rattle.du_intake.specs.declared.unit.Intake.{Intake}
use Rattle.fh_document.specs.declared.document.Document.{Document}
use Rattle.frame_ways.specs.Ways.{IsCalmTo, landings_on}
use Rattle.frame_ways.specs.declared.way.Way.{Way}
use Rattle.fronthaul_replay.proofs.QuietLemmas.{AreSilent, quiet_until}
use Rattle.fronthaul_replay.proofs.WayLemmas.{waits_until}
use Rattle.fronthaul_replay.proofs.DownLemmas.{waits_at}
use Rattle.document_traffic.specs.Measured.{exchanges}
use Rattle.document_traffic.specs.Replayed.{begins_at, landings_for, leaving_with, traffic_of}
use Rattle.document_traffic.specs.Turns.{IsQuietBetween}
use Rattle.document_traffic.proofs.LeaveLemmas.{leaving_waits}
use Rattle.document_traffic.proofs.ReplayedLemmas.{landings_are_replayed}
use Rattle.document_traffic.proofs.TurnLemmas.{flights_wait}
use Rattle.frame_sending.proofs.OrderLemmas.{sent_less}
use Rattle.frame_sending.specs.Due.{AreSentFrom}
use Rattle.du_scheduler.specs.declared.plans.Plan.{Plan}
use Rattle.uplink_path.specs.declared.uplink.Uplink.{Uplink}
use Rattle.fronthaul_replay.proofs.BoxSteps.{AreEventsOf, arrivals_stay, cells_stay, events_front, radio_own}
use Rattle.fronthaul_replay.proofs.TurnLemmas.{quiet_less}
use Rattle.fronthaul_replay.specs.Down.{WaitsDown}
use Rattle.fronthaul_replay.specs.Waiting.{Waits, on_way}
use Rattle.fronthaul_replay.specs.BoxTurns.{AtRadioTurn, events_before, radio_events}
use Rattle.replay_laws.specs.Moments.{all_arrivals, end_of_time}
use Rattle.replay_laws.specs.Passing.{IsCalm, IsNextMoment, IsUnitMoment}
use Rattle.replay_laws.proofs.CameLemmas.{calm_adds_nothing}
use Rattle.replay_laws.proofs.TickLemmas.{between}
use Rattle.ru_buffers.specs.Calls.{IsQuietTo}
use Rattle.ru_buffers.specs.declared.unit.Ru.{Ru}
use Rattle.frame_ways.specs.SendQueues.{IsSilentTo, LeaveFrom, WaitsFor, waiting_at}
use Rattle.frame_ways.proofs.SendQueueLemmas.{waits_on as queue_waits_on}
use Rattle.fh_base.specs.Lists.{onto}
use Rattle.unit_model.specs.Radiated.{first_clock}
use Rattle.unit_model.specs.Reports.{du_reported}
use Rattle.unit_model.specs.Standing.{History, nothing_yet}
use Rattle.unit_model.specs.declared.jobs.UplinkJob.{UplinkJob}
use Rattle.unit_laws.proofs.HistoryTicks.{last_is_earlier, last_of_next, last_reached, last_before, last_order}
use Rattle.uplink_model.specs.Frames.{frames_behind}
use Rattle.uplink_model.specs.Messages.{uplink_messages_of}
use Rattle.uplink_path.specs.Emitting.{AreNumbered}
use Rattle.uplink_laws.specs.Given.{HasSeen}
use Rattle.uplink_laws.specs.Turns.{jobs_until, leaving_of_handed}
use Rattle.uplink_laws.proofs.GivenLemmas.{owes_none}
use Rattle.uplink_laws.proofs.LeavingLemmas.{left_waits}
use Rattle.fronthaul_replay.specs.Up.{WaitsUp, answers_left, handed_by, left_for, left_up}
use Rattle.fronthaul_replay.specs.IntakeTurns.{AtIntakeTurn, IsIntakeInStep, planned_for}
use Rattle.fronthaul_replay.proofs.UpLemmas.{answers_later}
use Rattle.fronthaul_replay.proofs.IntakeTurnLemmas.{due_less, skip, start, unit_waits}
use Rattle.fh_base.proofs.Orders.{at_most, more_differ, not_eq, weak, next_after, next_is_later}

-- ---- the start

-- an intake that stands for nothing is at the first tick
pub intake_begins : (d : Document) (u : Intake) → IntakeStandsFor d.config (planned_for d) u nothing_yet → AtIntakeTurn d first_clock u
intake_begins d u stands = record {
  history = nothing_yet;
  stands = stands;
  turn = start d u stands;
  clock = subst (λ (t : ℤ). t ≤ℤ first_clock) (sym stands.kept.clock_is) (≤ℤ_refl first_clock);
}

-- ---- the time before a tick

-- before it nothing is due at the intake
pub none_due_before : (d : Document) (now to : ℤ) (u : Intake) → (a : AtIntakeTurn d now u) → to <ℤ now → intake_due_of d.config (planned_for d) a.history to ≡ []
none_due_before d now to u a early = due_less d a.history to (now -ℤ pos 1) (last_before to now early) a.turn.quiet

-- and of frames that leave later none leaves
pub silent_before : (now to : ℤ) (q : List LinkFrame) → LeaveFrom now q → to <ℤ now → IsSilentTo q to
silent_before now to q from early = All-weaker (λ (f : LinkFrame). now ≤ℤ f.at.0) (λ (f : LinkFrame). to <ℤ f.at.0) (λ f late. <ℤ-≤ℤ_trans early late) q from

-- Up to a tick nothing happens: no measurement begins at either unit; at the radio unit no cell is due and no message starts; nothing
-- leaves for either unit or lands at it, and no cell is due at the distributed unit.
pub record IsStill {G : Type 0} (pre : G → RePlace → Type 0) (post : G → RePlace → Wide → Type 0) (d : Document) (now tick : ℤ) (ru : Ru) (u : Intake)
    (p : Plan) (w : Way) (a : Uplink G) (link q : List LinkFrame) (x : Way) : Type 0 where
  pub replayable : IsReplayable d
  pub order : now ≤ℤ tick
  pub ended : tick ≤ℤ (end_of_time +ℤ pos 1)
  pub none_begins : (side : Side) (t : ℤ) → now ≤ℤ t → t <ℤ tick → begins_at d side t ≡ []
  pub radio : AtRadioTurn d now ru
  pub quiet : IsQuietTo d.config radio.history (tick -ℤ pos 1)
  pub down : WaitsDown d now p w
  pub sends : AreSentFrom ((tick -ℤ pos 1) +ℤ pos 1) down.left
  pub calm : IsCalmTo (landings_on (on_way d AtRu down.way.sent)) now (tick -ℤ pos 1)
  pub intake : AtIntakeTurn d now u
  pub none_due : intake_due_of d.config (planned_for d) intake.history (tick -ℤ pos 1) ≡ []
  pub waits : WaitsUp pre post d now a link q x
  pub silent : IsSilentTo q (tick -ℤ pos 1)
  pub calm_up : IsCalmTo (landings_on (on_way d AtDu waits.frames.on_way.sent)) now (tick -ℤ pos 1)

-- of frames that leave later none leaves at a tick
none_then : (t : ℤ) (q : List LinkFrame) → IsSilentTo q t → waiting_at t q ≡ []
none_then t [] silent = refl
none_then t (f ∷ q) silent =
    let P = λ (g : LinkFrame). t <ℤ g.at.0 in
    ap (λ (b : Bool). cond b (f ∷ waiting_at t q) (waiting_at t q)) (not_eq f.at.0 t (more_differ f.at.0 t (All-head P f q silent))) ∙ none_then t q (All-tail P f q silent)

earlier : (to tick at : ℤ) → to <ℤ tick → (tick -ℤ pos 1) <ℤ at → to <ℤ at
earlier to tick at less late = omega (arith, ints)

module _ {G : Type 0} (pre : G → RePlace → Type 0) (post : G → RePlace → Wide → Type 0) (d : Document) (now tick : ℤ) (ru : Ru) (u : Intake)
    (p : Plan) (w : Way) (a : Uplink G) (link q : List LinkFrame) (x : Way) (s : IsStill pre post d now tick ru u p w a link q x) where
  abbrev begun_now : first_clock ≤ℤ now
  begun_now = s.radio.turn.begun

  -- ---- where nothing landed at the radio unit before a tick, the radio unit sends nothing up to it

  module _ (to : ℤ) (low : now ≤ℤ to) (high : to ≤ℤ tick) (calm : IsCalm (landings_for AtRu d) now to) where
    to_ended : to ≤ℤ (end_of_time +ℤ pos 1)
    to_ended = at_most to tick (end_of_time +ℤ pos 1) high s.ended

    seen : HasSeen d.config (landings_for AtRu d) to s.radio.history
    seen = record {
      config = s.replayable.document.config;
      landings_are = landings_are_replayed d AtRu s.replayable;
      begun = at_most first_clock now to begun_now low;
      ended = to_ended;
      arrivals = s.radio.turn.arrivals ∙ sym (calm_adds_nothing (landings_for AtRu d) now to begun_now low calm);
    }

    none_starts : (until : ℤ) → now ≤ℤ (until +ℤ pos 1) → until ≤ℤ to → until ≤ℤ (tick -ℤ pos 1)
        → jobs_until d.config (landings_for AtRu d) until ≡ jobs_until d.config (landings_for AtRu d) (now -ℤ pos 1)
    none_starts until from by early =
        owes_none d.config (landings_for AtRu d) now until to s.radio.history seen begun_now from by s.radio.turn.given
        (quiet_less d.config ru s.radio.history until (tick -ℤ pos 1) s.radio.stands early s.quiet).messages

  silent_until : (to : ℤ) → to <ℤ tick → IsSilentTo q to
  silent_until to less =
      All-weaker (λ (f : LinkFrame). (tick -ℤ pos 1) <ℤ f.at.0) (λ (f : LinkFrame). to <ℤ f.at.0) (λ f late. earlier to tick f.at.0 less late) q s.silent

  none_leaves : (t : ℤ) → now ≤ℤ t → t <ℤ tick → leaving_of_handed d.config (antenna_for d) (landings_for AtRu d) (now -ℤ pos 1) t ≡ []
  none_leaves t low high = sym (s.waits.frames.waiting.at t low) ∙ none_then t q (silent_until t high)

  left_same : (end : ℤ) → now ≤ℤ end → end ≤ℤ tick → jobs_until d.config (landings_for AtRu d) (end -ℤ pos 1) ≡ jobs_until d.config (landings_for AtRu d) (now -ℤ pos 1)
      → left_for d now ≡ left_for d end
  left_same end low high none =
      left_waits d.config (antenna_for d) (landings_for AtRu d) now end s.replayable.document.config begun_now low (at_most end tick (end_of_time +ℤ pos 1) high s.ended)
      (record { none_starts = none; none_leaves = λ t from before. none_leaves t from (<ℤ-≤ℤ_trans before high) })

  -- ---- so nothing lands at either unit

  abbrev ways : Side → Way
  ways AtRu = w
  ways AtDu = x

  abbrev left : Side → List Leaving
  left AtRu = map (leaving_of d) s.down.left
  left AtDu = answers_left d now

  abbrev both_stand : (side : Side) → Waits d side now (leaving_with side d (left side) now) (ways side)
  both_stand AtRu = s.down.way
  both_stand AtDu = s.waits.frames.on_way

  both_empty : (side : Side) → IsCalmTo (landings_on (on_way d side (both_stand side).sent)) now (tick -ℤ pos 1)
  both_empty AtRu = s.calm
  both_empty AtDu = s.calm_up

  -- up to a tick before which all was quiet
  module _ (t : ℤ) (low : now ≤ℤ t) (high : t <ℤ tick) (quiet : IsQuietBetween d now t) where
    abbrev next : ℤ
    next = t +ℤ pos 1

    next_high : next ≤ℤ tick
    next_high = next_after t tick high

    answers_wait : left_for d now ≡ left_for d next
    answers_wait =
        left_same next (at_most now t next low (next_is_later t)) next_high
        (ap (λ (z : ℤ). jobs_until d.config (landings_for AtRu d) z) (last_of_next t)
        ∙ none_starts t low (weak t tick high) (quiet.calm AtRu) t (at_most now t next low (next_is_later t)) (≤ℤ_refl t) (last_before t tick high))

    both_later : (side : Side) → All (λ (f : Leaving). next ≤ℤ f.at) (left side)
    both_later AtRu =
        All-map (λ (f : Leaving). next ≤ℤ f.at) (leaving_of d) s.down.left
        (sent_less next ((tick -ℤ pos 1) +ℤ pos 1) s.down.left (at_most next tick ((tick -ℤ pos 1) +ℤ pos 1) next_high (last_reached tick tick (≤ℤ_refl tick))) s.sends)
    both_later AtDu =
        subst (λ (fs : List LinkFrame). All (λ (f : Leaving). next ≤ℤ f.at) (map leaving_answer fs)) (sym answers_wait)
        (answers_later d next)

    both_silent : AreSilent d now next left ways
    both_silent = record {
      waits = both_stand;
      empty = λ side t from to. both_empty side t from (at_most t (next -ℤ pos 1) (tick -ℤ pos 1) to (last_order next tick next_high));
      later = both_later;
      begins = λ side k from before. s.none_begins side k from (<ℤ-≤ℤ_trans before next_high);
    }

    quiet_next : IsQuietBetween d now next
    quiet_next =
        quiet_until flights_wait d now next left ways s.replayable begun_now (at_most now t next low (next_is_later t))
        (at_most next tick (end_of_time +ℤ pos 1) next_high s.ended) both_silent

  -- and nothing begins, from the one tick on and before the other
  pub still_between : IsQuietBetween d now tick
  still_between =
      between (λ t. IsQuietBetween d now t) now tick s.order
      (record { begins = λ side t from before. absurd (clash_ℤ before from); calm = λ side t from before. absurd (clash_ℤ before from) })
      quiet_next

  -- ---- the distributed unit

  -- nothing is due at it, so it is its next moment
  pub still_at_intake : IsUnitMoment AtDu d.config (traffic_of d) now tick
  still_at_intake = unit_waits d now tick s.intake.history s.replayable s.intake.turn (still_between.calm AtDu) s.none_due

  -- so the intake is at the tick
  pub intake_idle : IsNextMoment d.config (traffic_of d) now tick → AtIntakeTurn d tick u
  intake_idle next = record {
    history = s.intake.history;
    stands = s.intake.stands;
    turn = skip d now tick s.intake.history s.intake.turn next;
    clock = at_most u.clock.0 now tick s.intake.clock s.order;
  }

  none_between : jobs_until d.config (landings_for AtRu d) (tick -ℤ pos 1) ≡ jobs_until d.config (landings_for AtRu d) (now -ℤ pos 1)
  none_between =
      none_starts tick s.order (≤ℤ_refl tick) (still_between.calm AtRu) (tick -ℤ pos 1) (last_reached now tick s.order) (last_is_earlier tick) (≤ℤ_refl (tick -ℤ pos 1))

  -- what is still to be sent is the same
  left_stays : leaving_with AtDu d (answers_left d now) now ≡ leaving_with AtDu d (answers_left d tick) tick
  left_stays =
      ap (λ (fs : List LinkFrame). leaving_with AtDu d (map leaving_answer fs) now) (left_same tick s.order (≤ℤ_refl tick) none_between)
      ∙ leaving_waits ((exchanges d).sent AtDu) now tick (answers_left d tick) (answers_later d tick) s.order s.ended
      (flights_wait d AtDu now tick s.replayable begun_now s.ended still_between)

  -- and the same waits for it
  pub waits_idle : WaitsUp pre post d tick a link q x
  waits_idle =
      let c = d.config in
      let js = sym none_between in
      record {
        handed = record {
          kept = s.waits.handed.kept;
          tone = s.waits.handed.tone;
          numbered = subst (λ (xs : List UplinkJob). AreNumbered c a (onto [] (uplink_messages_of c xs))) js s.waits.handed.numbered;
          none_handed = s.waits.handed.none_handed;
        };
        frames = record {
          waiting = subst (λ (xs : List UplinkJob). WaitsFor (length c.endpoints) tick (frames_behind c (antenna_for d) [] (uplink_messages_of c xs)) q) js
              (queue_waits_on (length c.endpoints) now tick (handed_by d (now -ℤ pos 1)) q s.waits.frames.waiting s.order silent_until);
          on_way = subst (λ (fs : List Leaving). Waits d AtDu tick fs x) left_stays
              (waits_until d AtDu now tick (left_up d now) x s.waits.frames.on_way s.order s.calm_up);
        };
      }

  -- and what is still to be received at the radio unit
  pub down_idle : WaitsDown d tick p w
  down_idle = waits_at d now tick p w s.replayable s.down begun_now s.order s.ended s.sends s.calm still_between

-- ---- in step with what was heard

-- the radio unit's events change nothing of it
pub intake_step_stays : (d : Document) (told more : List Event) (u : Intake) → AreEventsOf AtRu more → IsIntakeInStep d told u → IsIntakeInStep d (told ++ more) u
intake_step_stays d told more u other step = record {
  history = step.history;
  stands = step.stands;
  arrivals = step.arrivals ∙ sym (arrivals_stay AtDu AtRu told more refl other);
  reported = step.reported ∙ sym (cells_stay AtDu AtRu told more refl other);
}

-- nor do the first of a tick's
pub intake_front_stays : (d : Document) (tick : ℤ) (told front rest : List Event) (u : Intake) → radio_events d tick ≡ front ++ rest → IsIntakeInStep d told u
    → IsIntakeInStep d (told ++ front) u
intake_front_stays d tick told front rest u is step =
    intake_step_stays d told front u (events_front AtRu front rest (subst (AreEventsOf AtRu) is (radio_own d tick))) step

pub intake_turn_step : (d : Document) (now : ℤ) (u : Intake) → AtIntakeTurn d now u → IsIntakeInStep d (events_before d now) u
intake_turn_step d now u a = record { history = a.history; stands = a.stands; arrivals = a.turn.came; reported = a.turn.told }

-- ---- the end

-- all that lands has arrived, and all its cells are reported
pub record IsIntakeOver (d : Document) (h : History) : Type 0 where
  pub arrivals : h.arrivals ≡ all_arrivals (landings_for AtDu d)
  pub reported : h.reported ≡ du_reported d.config (planned_for d) (all_arrivals (landings_for AtDu d)) end_of_time
  pub quiet : (to : ℤ) → to ≤ℤ end_of_time → intake_due_of d.config (planned_for d) h to ≡ []

pub intake_over : (d : Document) (u : Intake) → (a : AtIntakeTurn d (end_of_time +ℤ pos 1) u) → IsIntakeOver d a.history
intake_over d u a =
    let last = last_of_next end_of_time in
    record {
      arrivals = a.turn.arrivals;
      reported = a.turn.reported ∙ ap (du_reported d.config (planned_for d) (all_arrivals (landings_for AtDu d))) last;
      quiet = λ to order. due_less d a.history to end_of_time order (ap (intake_due_of d.config (planned_for d) a.history) (sym last) ∙ a.turn.quiet);
    }
