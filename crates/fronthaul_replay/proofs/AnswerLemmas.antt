-- The radio unit's messages of one tick are given, and their frames wait.
use Rattle.std.proofs.Common.{◌≡◌, ℤ, pos, ◌+ℤ◌, ◌-ℤ◌, ◌≤ℤ◌, List, [], ◌++◌, length, drop, refl, sym, ap, ap₂, ◌∙◌, subst, append_assoc}
use Rattle.std.proofs.Math.Seq.{drop-length}
use Rattle.std.specs.Int.Signed.{≤ℤ_refl}
use Rattle.air_source.specs.Answers.{AnswersBy}
use Rattle.air_source.specs.declared.events.Side.TheVariants.{Ru as AtRu, Du as AtDu}
use Rattle.air_source.specs.declared.links.LinkFrame.{LinkFrame}
use Rattle.air_source.specs.Kept.{IsKept, closure_of}
use Rattle.air_source.specs.declared.places.RePlace.{RePlace}
use Rattle.air_source.specs.declared.samples.Samples.{Samples}
use Rattle.bfp_codec.specs.declared.samples.Wide.{Wide}
use Rattle.document_traffic.specs.Landing.{antenna_for}
use Rattle.document_traffic.specs.Sending.{Leaving}
use Rattle.fh_document.specs.declared.document.Document.{Document}
use Rattle.document_traffic.specs.Replayed.{all_leaving, landings_for, leaving_with}
use Rattle.document_traffic.proofs.LeaveLemmas.{uplink_alike}
use Rattle.document_traffic.proofs.ReplayedLemmas.{landings_are_replayed}
use Rattle.frame_ways.specs.declared.way.Way.{Way}
use Rattle.plan_model.specs.Packs.{Message}
use Rattle.fronthaul_replay.proofs.BoxSteps.{arrivals_stay, cells_stay, intake_own, next_events}
use Rattle.fronthaul_replay.specs.BoxTurns.{AtRadioTurn, IsRadioInStep, IsRadioLanded, events_before, intake_events, radio_events}
use Rattle.unit_model.specs.Heard.{arrivals_heard, cells_heard}
use Rattle.replay_laws.specs.Moments.{arrivals_before, end_of_time}
use Rattle.ru_buffers.specs.Calls.{StandsFor}
use Rattle.ru_buffers.specs.Reporting.{due_of}
use Rattle.ru_buffers.specs.declared.unit.Ru.{Ru}
use Rattle.frame_ways.specs.SendQueues.{LeaveFrom, WaitsFor}
use Rattle.fh_base.proofs.OntoLemmas.{onto-append, onto_none}
use Rattle.fh_base.specs.Lists.{onto}
use Rattle.unit_model.specs.Radiated.{first_clock}
use Rattle.unit_model.specs.Reports.{accepted_of, ru_reported}
use Rattle.unit_model.specs.Standing.{History, owed_until}
use Rattle.unit_model.specs.Uplink.{jobs}
use Rattle.unit_model.specs.declared.jobs.UplinkJob.{UplinkJob}
use Rattle.unit_laws.proofs.HistoryTicks.{last_of_next}
use Rattle.fh_base.proofs.Orders.{before_it, next_later, next_order}
use Rattle.uplink_model.specs.Frames.{frames_behind}
use Rattle.uplink_model.specs.Messages.{uplink_messages_of}
use Rattle.uplink_model.specs.SentLaws.{AreOf}
use Rattle.uplink_path.specs.Emitting.{MaySend, AreNumbered, SentAll, given_too}
use Rattle.uplink_path.specs.declared.uplink.Uplink.{Uplink}
use Rattle.uplink_laws.specs.Given.{HasSeen}
use Rattle.uplink_laws.specs.Turns.{handed_at, handed_until, jobs_of_tick, jobs_until, messages_of_tick, messages_until}
use Rattle.uplink_laws.proofs.GivenLemmas.{gives_tick, owes_tick}
use Rattle.uplink_laws.proofs.HandedLemmas.{handed_behind_are_of, handed_go_on, handed_leave_later, none_handed_before}
use Rattle.uplink_laws.proofs.TurnJobs.{jobs_settled, no_jobs_before}
use Rattle.uplink_laws.proofs.MessageLemmas.{messages_go_on}
use Rattle.fronthaul_replay.specs.Answering.{IsDueAt, MayAnswer}
use Rattle.fronthaul_replay.specs.IntakeTurns.{heard_before}
use Rattle.fronthaul_replay.specs.Waiting.{Waits}
use Rattle.fronthaul_replay.specs.Up.{AwaitsFrames, HasHanded, WaitsUp}

-- ---- what two clauses say of a result

-- ---- the messages that are due

pub has_seen : (d : Document) (tick : ℤ) (h : History) → IsDueAt d tick → IsRadioLanded d tick h → HasSeen d.config (landings_for AtRu d) (tick +ℤ pos 1) h
has_seen d tick h due landed = record {
  config = due.replayable.document.config;
  landings_are = landings_are_replayed d AtRu due.replayable;
  begun = next_later first_clock tick due.begun;
  ended = next_order tick end_of_time due.ended;
  arrivals = landed.arrivals;
}

-- they are those of the tick
pub due_jobs : (d : Document) (tick : ℤ) (h : History) → IsDueAt d tick → IsRadioLanded d tick h → owed_until d.config h h.clock ≡ jobs_of_tick d.config (landings_for AtRu d) tick
due_jobs d tick h due landed =
    ap (λ (t : ℤ). owed_until d.config h t) landed.clock
    ∙ owes_tick d.config (landings_for AtRu d) tick (tick +ℤ pos 1) h (has_seen d tick h due landed) due.begun (next_later tick tick (≤ℤ_refl tick)) landed.given

-- and with them all up to the tick are given
pub given_jobs : (d : Document) (tick : ℤ) (h : History) → IsDueAt d tick → IsRadioLanded d tick h
    → h.given ++ owed_until d.config h h.clock ≡ jobs_until d.config (landings_for AtRu d) tick
given_jobs d tick h due landed =
    ap (λ (t : ℤ). h.given ++ owed_until d.config h t) landed.clock
    ∙ gives_tick d.config (landings_for AtRu d) tick (tick +ℤ pos 1) h (has_seen d tick h due landed) due.begun (next_later tick tick (≤ℤ_refl tick)) landed.given

-- then none is left up to it
none_left : (d : Document) (tick : ℤ) (k : History) → IsDueAt d tick → k.arrivals ≡ arrivals_before (landings_for AtRu d) (tick +ℤ pos 1)
    → k.given ≡ jobs_until d.config (landings_for AtRu d) tick → owed_until d.config k tick ≡ []
none_left d tick k due came given =
    let c = d.config in
    let ls = landings_for AtRu d in
    let all = jobs_until c ls tick in
    let settled : jobs c.endpoints (accepted_of c (arrivals_before ls (tick +ℤ pos 1))) tick ≡ all =
    jobs_settled c ls tick (tick +ℤ pos 1) due.replayable.document.config (landings_are_replayed d AtRu due.replayable) (next_later first_clock tick due.begun)
    (next_order tick end_of_time due.ended) (next_later tick tick (≤ℤ_refl tick)) in
    ap₂ (λ (gs js : List UplinkJob). drop (length gs) js) given (ap (λ (xs : List _). jobs c.endpoints (accepted_of c xs) tick) came ∙ settled)
    ∙ drop-length all

-- ---- the radio unit

-- it is at the start of the next tick
pub radio_then : (d : Document) (tick : ℤ) (h : History) (ru : Ru) → IsDueAt d tick → IsRadioLanded d tick h
    → StandsFor d.config ru (given_too h (owed_until d.config h h.clock)) → AtRadioTurn d (tick +ℤ pos 1) ru
radio_then d tick h ru due landed stands =
    let c = d.config in
    let k = given_too h (owed_until c h h.clock) in
    let given : k.given ≡ jobs_until c (landings_for AtRu d) tick = given_jobs d tick h due landed in
    let last = sym (last_of_next tick) in
    let other = intake_own d tick in
    let events : events_before d (tick +ℤ pos 1) ≡ heard_before d tick ++ intake_events d tick =
    next_events d tick due.begun ∙ sym (append_assoc (events_before d tick) (radio_events d tick) (intake_events d tick)) in
    record {
      history = k;
      stands = stands;
      turn = record {
        begun = next_later first_clock tick due.begun;
        ended = next_order tick end_of_time due.ended;
        arrivals = landed.arrivals;
        reported = landed.reported ∙ ap (λ (u : ℤ). ru_reported c (arrivals_before (landings_for AtRu d) (tick +ℤ pos 1)) u) last;
        quiet = record {
          cells = ap (λ (u : ℤ). due_of c k u) (sym last ∙ sym landed.clock) ∙ stands.kept.past;
          messages = ap (λ (u : ℤ). owed_until c k u) (sym last) ∙ none_left d tick k due landed.arrivals given;
        };
        given = given ∙ ap (λ (u : ℤ). jobs_until c (landings_for AtRu d) u) last;
        came = landed.came ∙ sym (arrivals_stay AtRu AtDu (heard_before d tick) (intake_events d tick) refl other) ∙ ap (arrivals_heard AtRu []) (sym events);
        told = landed.told ∙ sym (cells_stay AtRu AtDu (heard_before d tick) (intake_events d tick) refl other) ∙ ap (cells_heard AtRu) (sym events);
      };
      clock = subst (λ (u : ℤ). u ≤ℤ (tick +ℤ pos 1)) (sym (stands.kept.clock_is ∙ landed.clock)) (next_later tick tick (≤ℤ_refl tick));
    }

-- whatever was given, it is in step with what was heard
pub radio_stays : (d : Document) (tick : ℤ) (h : History) (ru : Ru) (given : List UplinkJob) → IsRadioLanded d tick h → StandsFor d.config ru (given_too h given)
    → IsRadioInStep d (heard_before d tick) ru
radio_stays d tick h ru given landed stands = record { history = given_too h given; stands = stands; arrivals = landed.came; reported = landed.told }

-- ---- what sends its frames

pub may_send : {G : Type 0} (pre : G → RePlace → Type 0) (post : G → RePlace → Wide → Type 0) (ru : Ru) (u : Uplink G) (link queue : List LinkFrame) (w : Way)
    → (m : MayAnswer pre post ru u link queue w) → MaySend pre post u ru
may_send pre post ru u link queue w m = record {
  config = m.document.config;
  history = m.landed.history;
  messages = onto [] (messages_until m.document.config (landings_for AtRu m.document) (m.tick -ℤ pos 1));
  numbered = m.waits.handed.numbered;
  stands = m.landed.stands;
  kept = m.waits.handed.kept;
}

-- what was numbered before a tick
abbrev pub numbered_before : Document → ℤ → List (Message UplinkJob)
numbered_before d tick = onto [] (messages_until d.config (landings_for AtRu d) (tick -ℤ pos 1))

-- the frames that were handed over are those of the tick
pub handed_now : (post : RePlace → Wide → Type 0) {G : Type 0} (d : Document) (tick : ℤ) (h : History) (u : Uplink G) (ru : Ru) (old new : List LinkFrame)
    → IsDueAt d tick → IsRadioLanded d tick h → SentAll post d.config h (numbered_before d tick) u ru old new → AnswersBy post (antenna_for d) → old ≡ []
    → new ≡ handed_at d.config (antenna_for d) (landings_for AtRu d) tick
handed_now post d tick h u ru old new due landed sent tone none =
    let c = d.config in
    let antenna = antenna_for d in
    let ms = numbered_before d tick in
    sent.sent antenna tone
    ∙ ap₂ (λ (xs : List LinkFrame) (js : List UplinkJob). xs ++ frames_behind c antenna ms (uplink_messages_of c js)) none (due_jobs d tick h due landed)

pub handed_then : {G : Type 0} (pre : G → RePlace → Type 0) (post : G → RePlace → Wide → Type 0) (d : Document) (tick : ℤ) (h : History) (old new : Uplink G) (link left : List LinkFrame)
    → IsDueAt d tick → IsRadioLanded d tick h → HasHanded pre post d (tick -ℤ pos 1) old link → new.antenna ≡ old.antenna
    → AreNumbered d.config new (onto (numbered_before d tick) (uplink_messages_of d.config (owed_until d.config h h.clock))) → left ≡ []
    → HasHanded pre post d tick new left
handed_then pre post d tick h old new link left due landed handed same numbered none =
    let c = d.config in
    let ls = landings_for AtRu d in
    let before = messages_until c ls (tick -ℤ pos 1) in
    let all : onto (numbered_before d tick) (uplink_messages_of c (owed_until c h h.clock)) ≡ onto [] (messages_until c ls tick) =
    ap (λ (js : List UplinkJob). onto (onto [] before) (uplink_messages_of c js)) (due_jobs d tick h due landed)
    ∙ sym (onto-append [] before (messages_of_tick c ls tick)) ∙ ap (onto []) (sym (messages_go_on c ls tick due.begun)) in
    record {
      kept = rw same handed.kept;
      tone = rw same handed.tone;
      numbered = subst (AreNumbered c new) all numbered;
      none_handed = none;
    }

-- ---- the frames of the tick wait with the others

-- they are of the configuration's endpoints
pub are_of : (d : Document) (tick : ℤ) (fs : List LinkFrame) → fs ≡ handed_at d.config (antenna_for d) (landings_for AtRu d) tick → AreOf (length d.config.endpoints) fs
are_of d tick fs is =
    let c = d.config in
    subst (AreOf (length c.endpoints)) (sym is) (handed_behind_are_of c (antenna_for d) (landings_for AtRu d) tick (messages_of_tick c (landings_for AtRu d) tick))

pub are_later : (d : Document) (tick : ℤ) (fs : List LinkFrame) → IsDueAt d tick → fs ≡ handed_at d.config (antenna_for d) (landings_for AtRu d) tick → LeaveFrom tick fs
are_later d tick fs due is = subst (LeaveFrom tick) (sym is) (handed_leave_later d.config (antenna_for d) (landings_for AtRu d) tick due.replayable.document.config)

pub frames_then : (d : Document) (tick : ℤ) (fs q r : List LinkFrame) (w : Way) → IsDueAt d tick → fs ≡ handed_at d.config (antenna_for d) (landings_for AtRu d) tick
    → AwaitsFrames d (tick -ℤ pos 1) tick q w
    → WaitsFor (length d.config.endpoints) tick (handed_until d.config (antenna_for d) (landings_for AtRu d) (tick -ℤ pos 1) ++ fs) r → AwaitsFrames d tick tick r w
frames_then d tick fs q r w due is frames waits = record {
  waiting = rw (handed_go_on d.config (antenna_for d) (landings_for AtRu d) tick due.begun, ← is) waits;
  on_way = frames.on_way;
}

-- ---- the start

-- at the start nothing was
pub begins : {G : Type 0} (pre : G → RePlace → Type 0) (post : G → RePlace → Wide → Type 0) (d : Document) (antenna : Samples G) (u : Uplink G) (link queue : List LinkFrame) (w : Way)
    → IsKept pre post antenna → AnswersBy (post (closure_of antenna)) (antenna_for d) → u.antenna ≡ antenna → AreNumbered d.config u []
    → link ≡ [] → WaitsFor (length d.config.endpoints) first_clock [] queue → Waits d AtDu first_clock (all_leaving AtDu d) w
    → WaitsUp pre post d first_clock u link queue w
begins pre post d antenna u link queue w kept tone same numbered none waits way =
    let none_yet : messages_until d.config (landings_for AtRu d) (first_clock -ℤ pos 1) ≡ [] =
    ap (uplink_messages_of d.config) (no_jobs_before d.config (landings_for AtRu d) (first_clock -ℤ pos 1) (before_it first_clock)) in
    record {
      handed = record {
        kept = rw same kept;
        tone = rw same tone;
        numbered = subst (AreNumbered d.config u) (sym (ap (onto []) none_yet ∙ onto_none [])) numbered;
        none_handed = none;
      };
      frames = record {
        waiting = rw (none_handed_before d.config (antenna_for d) (landings_for AtRu d) (first_clock -ℤ pos 1) (before_it first_clock)) waits;
        on_way = subst (λ (fs : List Leaving). Waits d AtDu first_clock (leaving_with AtDu d fs first_clock) w) (uplink_alike d) way;
      };
    }
