-- The next moment, and the time before it.
use Rattle.std.proofs.Common.{◌≡◌, ℤ, pos, ◌+ℤ◌, ◌-ℤ◌, ◌≤ℤ◌, ◌<ℤ◌, Bool, true, false, ◌<◌, List, [], ◌++◌, Option, Some, None, refl, sym, ◌∙◌, subst, arith}
use Rattle.std.specs.Prelude.{int_le, int_lt, if◌then◌else◌}
use Rattle.std.specs.Int.{int_gap}
use Rattle.std.proofs.lemmas.Int.{ints, by_lt_z}
use Rattle.std.specs.Int.Signed.{≤ℤ_refl}
use Rattle.air_source.specs.declared.events.Event.{Event}
use Rattle.air_source.specs.declared.events.Side.{Side}
use Rattle.air_source.specs.declared.events.Side.TheVariants.{Ru as AtRu, Du as AtDu}
use Rattle.air_source.specs.declared.places.RePlace.{RePlace}
use Rattle.bfp_codec.specs.declared.samples.Wide.{Wide}
use Rattle.document_traffic.specs.Laws.{IsReplayable}
use Rattle.du_intake.specs.Calls.{IsIntakeDue}
use Rattle.du_intake.specs.Units.{intake_due_of as intake_due}
use Rattle.du_intake.specs.declared.unit.Intake.{Intake}
use Rattle.fh_document.specs.declared.document.Document.{Document}
use Rattle.fh_base.specs.declared.values.Ticks.{Ticks}
use Rattle.frame_ways.proofs.TimeLemmas.{earlier_of_both}
use Rattle.unit_moments.proofs.StopLemmas.{Follows}
use Rattle.fronthaul_replay.specs.Up.{NoneComesUp}
use Rattle.fronthaul_replay.specs.IntakeTurns.{planned_for}
use Rattle.fronthaul_replay.proofs.BoxNext.{IsStill as AreBothStill, down_idle, intake_idle, none_due_before, silent_before, still_at_intake, still_between, waits_idle}
use Rattle.fronthaul_replay.specs.Measuring.{begins_for}
use Rattle.unit_meters.specs.Begins.{NoneBeginsTo}
use Rattle.unit_meters.specs.declared.meters.Meters.{Meters}
use Rattle.fronthaul_replay.proofs.MeasureLemmas.{measures_wait, none_begins}
use Rattle.document_traffic.specs.Replayed.{traffic_of}
use Rattle.document_traffic.specs.Turns.{IsQuietBetween}
use Rattle.fronthaul_replay.specs.Down.{NoneComesDown}
use Rattle.fronthaul_replay.specs.BoxTurns.{events_before}
use Rattle.frame_sending.proofs.OrderLemmas.{sent_less}
use Rattle.plan_model.specs.Sent.{SentFrame}
use Rattle.air_source.specs.declared.links.LinkFrame.{LinkFrame}
use Rattle.frame_ways.specs.Leaving.{Leaving}
use Rattle.fronthaul_replay.proofs.MomentLemmas as radio
use Rattle.replay_laws.specs.Events.{events_at}
use Rattle.replay_laws.specs.Moments.{end_of_time}
use Rattle.replay_laws.specs.Passing.{IsNextMoment, IsUnitMoment}
use Rattle.replay_laws.proofs.EventLemmas.{events_go_on, events_wait}
use Rattle.ru_buffers.specs.Calls.{IsDue, IsQuietTo}
use Rattle.fh_base.specs.Least.{IsLeast, IsLeastOf, earlier_time}
use Rattle.ru_buffers.specs.declared.unit.Ru.{Ru}
use Rattle.unit_model.specs.Radiated.{first_clock}
use Rattle.unit_model.specs.Standing.{History}
use Rattle.unit_laws.proofs.HistoryTicks.{before_next}
use Rattle.fronthaul_replay.specs.declared.coming.Coming.{Coming}
use Rattle.fronthaul_replay.specs.Turns.{AtMoment, IsNextTick, IsStill, within_end}
use Rattle.fh_base.proofs.Orders.{under, not_under, next_later as next_most, before_it, next_after}
use Rattle.fh_base.proofs.EachLemmas.{gap_is}

-- ---- the next moment

radio_least : (d : Document) (h : History) (due : Option Ticks) → IsDue d.config h due → IsLeastOf (IsQuietTo d.config h) due
radio_least d h None due = due
radio_least d h (Some t) due = record { before = due.before; at = due.at }

intake_least : (d : Document) (k : History) (due : Option Ticks) → IsIntakeDue d.config (planned_for d) k due
    → IsLeastOf (λ to. intake_due d.config (planned_for d) k to ≡ []) due
intake_least d k None due = due
intake_least d k (Some t) due = record { before = due.before; at = due.at }

module _ (d : Document) (now : ℤ) (h k : History) (left : List SentFrame) (down : List Leaving) (queue : List LinkFrame) (up : List Leaving) where
  abbrev AreQuiet : ℤ → Type 0
  AreQuiet to = IsQuietTo d.config h to × (intake_due d.config (planned_for d) k to ≡ [])

  abbrev NoneComes : ℤ → Type 0
  NoneComes to = NoneComesDown d now left down to × NoneComesUp d now queue up to

  abbrev NoneMoves : ℤ → Type 0
  NoneMoves to = AreQuiet to × NoneComes to

  abbrev NoneBegins : ℤ → Type 0
  NoneBegins to = NoneBeginsTo (begins_for d) now to

  abbrev AreStill : ℤ → Type 0
  AreStill to = NoneMoves to × NoneBegins to

  still : (to : ℤ) → AreStill to → IsStill d now h k left down queue up to
  still to all = record { quiet = all.0.0.0; taken = all.0.0.1; calm = all.0.1.0; silent = all.0.1.1; begins = all.1 }

  ended_at : (t : Ticks) (b : Bool) → int_lt end_of_time t.0 ≡ b → IsLeast AreStill t.0 → IsNextTick d now h k left down queue up (if b then None else Some t)
  ended_at t true e least = λ to order. still to (least.before to (before_it to order))
    where
      before_it : (to : ℤ) → to ≤ℤ end_of_time → to <ℤ t.0
      before_it to order = let over = under end_of_time t.0 e in omega (arith, ints, over, order)
  ended_at t false e least = record {
    before = λ to lt. still to (least.before to lt);
    at = λ s. least.at (((s.quiet, s.taken), (s.calm, s.silent)), s.begins);
    ended = not_under end_of_time t.0 e;
  }

  next_by : (time : Option Ticks) → IsLeastOf AreStill time → IsNextTick d now h k left down queue up (within_end time)
  next_by None least = λ to order. still to (least to)
  next_by (Some t) least = ended_at t (int_lt end_of_time t.0) refl least

  pub is_next : (radio_due taken_due sent answered begins : Option Ticks) → IsDue d.config h radio_due → IsIntakeDue d.config (planned_for d) k taken_due
      → IsLeastOf (NoneComesDown d now left down) sent → IsLeastOf (NoneComesUp d now queue up) answered → IsLeastOf NoneBegins begins
      → IsNextTick d now h k left down queue up (within_end (earlier_time (earlier_time (earlier_time radio_due taken_due) (earlier_time sent answered)) begins))
  is_next radio_due taken_due sent answered begins radio_is taken_is calm silent none =
      let units = earlier_time radio_due taken_due in
      let frames = earlier_time sent answered in
      let quiet = earlier_of_both (IsQuietTo d.config h) (λ to. intake_due d.config (planned_for d) k to ≡ []) radio_due taken_due (radio_least d h radio_due radio_is) (intake_least d k taken_due taken_is) in
      let comes = earlier_of_both (NoneComesDown d now left down) (NoneComesUp d now queue up) sent answered calm silent in
      next_by (earlier_time (earlier_time units frames) begins)
      (earlier_of_both NoneMoves NoneBegins (earlier_time units frames) begins (earlier_of_both AreQuiet NoneComes units frames quiet comes) none)

-- ---- from a tick to the next moment

-- nothing happens between, and then all is at the start of the moment
pub record ComesTo {G : Type 0} (pre : G → RePlace → Type 0) (post : G → RePlace → Wide → Type 0)
    (d : Document) (now tick : ℤ) (u : Ru) (i : Intake) (w : Coming G) (m : Meters) : Type 0 where
  pub next : IsNextMoment d.config (traffic_of d) now tick
  pub moment : AtMoment pre post d tick u i w m

module _ {G : Type 0} {pre : G → RePlace → Type 0} {post : G → RePlace → Wide → Type 0}
    (d : Document) (now : ℤ) (u : Ru) (i : Intake) (w : Coming G) (m : Meters)
    (doc : IsReplayable d) (at : AtMoment pre post d now u i w m) where
  abbrev radio_history : History
  radio_history = at.turn.radio.history

  abbrev intake_history : History
  intake_history = at.turn.intake.history

  abbrev begun : first_clock ≤ℤ now
  begun = at.turn.radio.turn.begun

  -- nothing happens up to a time
  abbrev pub StillTo : ℤ → Type 0
  StillTo to = IsStill d now radio_history intake_history at.waits.down.left at.waits.down.way.sent w.answers.queue at.waits.up.frames.on_way.sent to

  module _ (tick : ℤ) (order : now ≤ℤ tick) (ended : tick ≤ℤ (end_of_time +ℤ pos 1)) (idle : (to : ℤ) → to <ℤ tick → StillTo to) where
    abbrev last : StillTo (tick -ℤ pos 1)
    last = idle (tick -ℤ pos 1) (before_it tick)

    both_still : AreBothStill pre post d now tick u i w.downlink.plan w.downlink.way w.answers.uplink w.answers.outbox.frames w.answers.queue w.answers.way
    both_still = record {
      replayable = doc;
      order = order;
      ended = ended;
      none_begins = none_begins d now tick last.begins;
      radio = at.turn.radio;
      quiet = last.quiet;
      down = at.waits.down;
      sends = last.calm.0;
      calm = last.calm.1;
      intake = at.turn.intake;
      none_due = last.taken;
      waits = at.waits.up;
      silent = last.silent.0;
      calm_up = last.silent.1;
    }

    quiet : IsQuietBetween d now tick
    quiet = still_between pre post d now tick u i w.downlink.plan w.downlink.way w.answers.uplink w.answers.outbox.frames w.answers.queue w.answers.way both_still

    each_unit : (side : Side) → IsUnitMoment side d.config (traffic_of d) now tick
    each_unit AtRu = radio.is_unit_moment d now tick u doc at.turn.radio last.quiet (quiet.calm AtRu)
    each_unit AtDu = still_at_intake pre post d now tick u i w.downlink.plan w.downlink.way w.answers.uplink w.answers.outbox.frames w.answers.queue w.answers.way both_still

    next_moment : IsNextMoment d.config (traffic_of d) now tick
    next_moment = record { config = doc.document.config; begun = begun; order = order; ended = ended; units = each_unit }

    pub comes_to : ComesTo pre post d now tick u i w m
    comes_to = record {
      next = next_moment;
      moment = record {
        turn = record {
          radio = radio.turn_at d now tick u doc at.turn.radio next_moment last.quiet;
          intake = intake_idle pre post d now tick u i w.downlink.plan w.downlink.way w.answers.uplink w.answers.outbox.frames w.answers.queue w.answers.way both_still next_moment;
        };
        waits = record {
          down = down_idle pre post d now tick u i w.downlink.plan w.downlink.way w.answers.uplink w.answers.outbox.frames w.answers.queue w.answers.way both_still;
          up = waits_idle pre post d now tick u i w.downlink.plan w.downlink.way w.answers.uplink w.answers.outbox.frames w.answers.queue w.answers.way both_still;
        };
        measures = measures_wait d m now tick at.measures begun order last.begins quiet;
      };
    }

  -- before a tick all is still
  none_before : (t to : ℤ) → now ≤ℤ t → t ≤ℤ to → to <ℤ now → ⊥
  none_before t to low high early = omega (arith, ints, low, high, early)

  still_before : (to : ℤ) → to <ℤ now → StillTo to
  still_before to early =
      let next = next_after to now early in
      record {
        quiet = radio.quiet_before d now to u at.turn.radio early;
        taken = none_due_before d now to i at.turn.intake early;
        calm = (sent_less (to +ℤ pos 1) now at.waits.down.left next at.waits.down.later, λ t low high. absurd (none_before t to low high early));
        silent = (silent_before now to w.answers.queue at.waits.up.frames.waiting.from early, λ t low high. absurd (none_before t to low high early));
        begins = λ t low high. absurd (none_before t to low high early);
      }

  not_before : (tick : ℤ) → (StillTo tick → ⊥) → now ≤ℤ tick
  not_before tick otherwise = by_lt_z tick now (λ early. absurd (otherwise (still_before tick early))) (λ under. under)

  -- what is otherwise at a time, and was still before
  abbrev pub NextIs : Option Ticks → Type 0
  NextIs t = IsNextTick d now radio_history intake_history at.waits.down.left at.waits.down.way.sent w.answers.queue at.waits.up.frames.on_way.sent t

  pub moment_comes : (tick : Ticks) → NextIs (Some tick) → ComesTo pre post d now tick.0 u i w m
  moment_comes tick n = comes_to tick.0 (not_before tick.0 n.at) (next_most tick.0 end_of_time n.ended) n.before

  -- or to the end
  pub end_comes : NextIs None → ComesTo pre post d now (end_of_time +ℤ pos 1) u i w m
  end_comes none = comes_to (end_of_time +ℤ pos 1) at.turn.radio.turn.ended (≤ℤ_refl (end_of_time +ℤ pos 1)) (λ to lt. none to (before_next to end_of_time lt))

-- ---- what was heard

pub heard_there : {A : Type 0} (grew : A → List Event → A → Type 0) (d : Document) (now tick : ℤ) (a b : A) → IsNextMoment d.config (traffic_of d) now tick
    → grew a (events_before d now) b → grew a (events_before d tick) b
heard_there grew d now tick a b next heard = subst (λ (es : List Event). grew a es b) (sym (events_wait d.config (traffic_of d) now tick next)) heard

pub heard_next : {A : Type 0} (grew next : A → List Event → A → Type 0) (d : Document) (tick : ℤ) (a b e : A) → first_clock ≤ℤ tick → Follows grew next a (events_before d tick) b
    → next b (events_at d.config (traffic_of d) tick) e → grew a (events_before d (tick +ℤ pos 1)) e
heard_next grew next d tick a b e begun follows second =
    subst (λ (es : List Event). grew a es e) (sym (events_go_on d.config (traffic_of d) tick begun)) (follows e (events_at d.config (traffic_of d) tick) second)

-- ---- the loop

pub gap_less : (now tick after : ℤ) → now ≤ℤ tick → tick ≤ℤ end_of_time → after ≡ tick +ℤ pos 1 → int_gap after (end_of_time +ℤ pos 1) < int_gap now (end_of_time +ℤ pos 1)
gap_less now tick after order ended is =
    let one = gap_is now (end_of_time +ℤ pos 1) (omega (arith, ints, order, ended)) in
    let two = gap_is after (end_of_time +ℤ pos 1) (omega (arith, ints, ended, is)) in
    omega (arith, ints, one, two, is, order)

pub in_order : (now tick : ℤ) (test : Bool) → now ≤ℤ tick → test ≡ int_le now tick → test ≡ false → ⊥
in_order now tick test order is refused =
    let e : int_le now tick ≡ false = sym is ∙ refused in
    omega (arith, ints)
