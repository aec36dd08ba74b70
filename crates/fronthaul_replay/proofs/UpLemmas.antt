-- What leaves the radio unit for a document: its answers of one tick, and at its end the frames of delay measurement.
use Rattle.std.proofs.Common.{◌≡◌, ℕ, ℤ, pos, ◌+ℤ◌, ◌≤ℤ◌, ◌<ℤ◌, ◌&&◌, ◌==◌, ◌<◌, ◌^◌, true, List, ◌++◌, All, length, refl, sym, ap, ◌∙◌, subst}
use Rattle.std.specs.Prelude.{map}
use Rattle.std.proofs.lemmas.Bool.Decides.{Decides-int_eq}
use Rattle.std.proofs.lemmas.List.{map-append}
use Rattle.std.proofs.lemmas.List.Elements.{All-map, All-weaker}
use Rattle.air_source.specs.declared.events.Side.TheVariants.{Ru, Du}
use Rattle.air_source.specs.declared.links.LinkFrame.{LinkFrame}
use Rattle.air_source.specs.declared.places.RePlace.{RePlace}
use Rattle.bfp_codec.specs.declared.samples.Wide.{Wide}
use Rattle.fh_base.proofs.Orders.{beyond_next, next_later, next_order}
use Rattle.frame_ways.specs.Leaving.{Leaving}
use Rattle.frame_sending.specs.Releasing.{HasReleased, IsShort}
use Rattle.frame_ways.specs.Ways.{StandsFor, having_sent_all}
use Rattle.frame_ways.specs.declared.way.Way.{Way}
use Rattle.document_traffic.proofs.LeaveLemmas.{measured_leave}
use Rattle.document_traffic.proofs.SentLemmas.{messages_are_owed}
use Rattle.document_traffic.proofs.TurnLemmas.{made_leave}
use Rattle.document_traffic.specs.Measured.{exchanges}
use Rattle.document_traffic.specs.Replayed.{landings_for, leaving_made, leaving_with, made_at}
use Rattle.document_traffic.proofs.AnswerLemmas.{handed_is_sent}
use Rattle.document_traffic.proofs.ShortLemmas.{are_short}
use Rattle.document_traffic.specs.Landing.{antenna_for, handed_for, leaving_answer, leaving_up}
use Rattle.document_traffic.specs.Laws.{IsReplayable}
use Rattle.fh_document.specs.declared.document.Document.{Document}
use Rattle.replay_laws.specs.Moments.{end_of_time}
use Rattle.unit_laws.proofs.HistoryTicks.{last_of_next}
use Rattle.unit_model.specs.Radiated.{first_clock}
use Rattle.unit_model.specs.declared.jobs.UplinkJob.{UplinkJob}
use Rattle.uplink_laws.specs.Premise.{frames_of}
use Rattle.uplink_model.proofs.SentLemmas.{leaving_leave_then}
use Rattle.uplink_model.specs.Sent.{frames_leaving, leaves_at, leaving_at}
use Rattle.uplink_laws.proofs.HandedLemmas.{handed_go_on_from}
use Rattle.uplink_laws.proofs.LeavingLemmas.{left_goes_on, left_leave_later}
use Rattle.uplink_laws.specs.Turns.{handed_between, handed_until}
use Rattle.frame_ways.specs.SendQueues.{WaitsFor}
use Rattle.unit_moments.specs.Made.{made_as}
use Rattle.uplink_path.specs.declared.uplink.Uplink.{Uplink}
use Rattle.du_intake.specs.declared.unit.Intake.{Intake}
use Rattle.fronthaul_replay.specs.Answering.{IsDueAt}
use Rattle.fronthaul_replay.specs.IntakeTurns.{AtIntakeTurn}
use Rattle.fronthaul_replay.specs.Up.{AwaitsFrames, HasHanded, HasLandedUp, HasSentUp, WaitsUp, answers_left, handed_by, left_at_end, left_for, left_up}
use Rattle.fronthaul_replay.specs.Waiting.{LandsAfter, Waits, on_way}
use Rattle.fronthaul_replay.proofs.DownLemmas.{first_all}
use Rattle.fronthaul_replay.proofs.LeavingLemmas.{leaving_lands_after}
use Rattle.fronthaul_replay.proofs.WayLemmas.{all_go_out}
use Rattle.fh_base.specs.Members.{IsIn}
use Rattle.fh_base.proofs.MemberLemmas.{all_of, in_filter, in_left, of_filter}
use Rattle.fh_base.proofs.MadeLists.{in_all, of_each}

pub is_due : (d : Document) (tick : ℤ) (u : Intake) → IsReplayable d → AtIntakeTurn d tick u → tick ≤ℤ end_of_time → IsDueAt d tick
is_due d tick u doc a ended = record { replayable = doc; begun = a.turn.begun; ended = ended }

pub answers_later : (d : Document) (tick : ℤ) → All (λ (f : Leaving). tick ≤ℤ f.at) (answers_left d tick)
answers_later d tick = All-map (λ (f : Leaving). tick ≤ℤ f.at) leaving_answer (left_for d tick) (left_leave_later d.config (antenna_for d) (landings_for Ru d) tick)

-- ---- each frame is short enough for an air

-- what leaves at a tick is among all
of_leaving : (n : ℕ) (frames : List LinkFrame) (t : ℤ) (f : LinkFrame) → IsIn f (leaving_at n frames t) → IsIn f frames
unfolding leaving_at
of_leaving n frames t f m =
    let w = of_each f 0 n (frames_leaving frames t) m in
    (of_filter (λ (g : LinkFrame). leaves_at t g && (g.ep == w.0)) f frames w.3).0

all_handed : (d : Document) → handed_by d end_of_time ≡ handed_for d
all_handed d = ap (λ (js : List UplinkJob). frames_of d.config (antenna_for d) js) (messages_are_owed d)

-- all that the radio unit hands over
handed_short : (d : Document) → IsReplayable d → All IsShort (handed_for d)
handed_short d doc =
    all_of IsShort (handed_for d)
    (λ f m.
    in_all (λ (g : Leaving). length g.frame < 2 ^ 32) (leaving_answer f) (leaving_up d) (are_short d Du doc.document doc.valid)
    (handed_is_sent d doc.document doc.valid f m))

until_end : (tick : ℤ) → tick ≤ℤ end_of_time → (tick +ℤ pos 1) ≤ℤ (end_of_time +ℤ pos 1)
until_end tick h = next_order tick end_of_time h

short_by : (d : Document) (tick : ℤ) → IsDueAt d tick → All IsShort (handed_by d tick)
short_by d tick due =
    let c = d.config in
    let antenna = antenna_for d in
    let ls = landings_for Ru d in
    let later = handed_between c antenna ls (tick +ℤ pos 1) (end_of_time +ℤ pos 1) in
    let parts : handed_for d ≡ handed_by d tick ++ later =
    sym (all_handed d)
    ∙ handed_go_on_from c antenna ls (tick +ℤ pos 1) end_of_time (next_later first_clock tick due.begun) (until_end tick due.ended)
    ∙ ap (λ (t : ℤ). handed_until c antenna ls t ++ later) (last_of_next tick) in
    all_of IsShort (handed_by d tick)
    (λ f m. in_all IsShort f (handed_by d tick ++ later) (subst (All IsShort) parts (handed_short d due.replayable)) (in_left f (handed_by d tick) later m))

leaves_then : (f : LinkFrame) → leaves_at f.at.0 f ≡ true
leaves_then f = (Decides-int_eq f.at.0 f.at.0).1 refl

-- and so all that waits
pub queue_short : (d : Document) (tick : ℤ) (q : List LinkFrame) → IsDueAt d tick → WaitsFor (length d.config.endpoints) tick (handed_by d tick) q → All IsShort q
queue_short d tick q due waits =
    let n = length d.config.endpoints in
    let handed = handed_by d tick in
    all_of IsShort q
    (λ f m.
    let t = f.at.0 in
    let there : IsIn f (leaving_at n handed t) =
    subst (λ (fs : List LinkFrame). IsIn f fs) (waits.at t (in_all (λ (g : LinkFrame). tick ≤ℤ g.at.0) f q waits.from m)) (in_filter (leaves_at t) f q m (leaves_then f)) in
    in_all IsShort f handed (short_by d tick due) (of_leaving n handed t f there))

-- ---- the frames of the tick go out

pub up_is_sent : (d : Document) (tick : ℤ) (q r : List LinkFrame) (w x : Way) → IsDueAt d tick → (h : AwaitsFrames d tick tick q w)
    → HasReleased (length d.config.endpoints) tick (handed_by d tick) (on_way d Du h.on_way.sent) r x → HasSentUp d tick r x
up_is_sent d tick q r w x due h released =
    let n = length d.config.endpoints in
    let these = leaving_at n (handed_by d tick) tick in
    let gone = map leaving_answer these in
    let parts : left_up d tick ≡ gone ++ left_at_end d tick =
    ap (λ (fs : List LinkFrame). leaving_with Du d (map leaving_answer fs) tick) (left_goes_on d.config (antenna_for d) (landings_for Ru d) tick due.replayable.document.config due.begun due.ended)
    ∙ ap (λ (ls : List Leaving). leaving_with Du d ls tick) (map-append leaving_answer these (left_for d (tick +ℤ pos 1)))
    ∙ first_all ((exchanges d).sent Du) tick gone (answers_left d (tick +ℤ pos 1))
    (All-map (λ (f : Leaving). f.at ≡ tick) leaving_answer these (leaving_leave_then n (handed_by d tick) tick)) due.ended in
    record { waiting = released.waits; on_way = all_go_out d Du tick gone (left_at_end d tick) (left_up d tick) w x h.on_way parts released.way }

-- what is still to be sent lands after it
pub up_later : (d : Document) (tick : ℤ) → All (LandsAfter tick) (left_at_end d tick)
up_later d tick =
    let next = tick +ℤ pos 1 in
    leaving_lands_after ((exchanges d).sent Du) tick (answers_left d next)
    (All-weaker (λ (f : Leaving). next ≤ℤ f.at) (λ (f : Leaving). tick <ℤ f.at) (λ f late. beyond_next tick f.at late) (answers_left d next) (answers_later d next))

pub landed_up : {G : Type 0} (pre : G → RePlace → Type 0) (post : G → RePlace → Wide → Type 0) (d : Document) (tick : ℤ) (u : Uplink G) (link q : List LinkFrame) (w x : Way)
    → HasHanded pre post d tick u link → HasSentUp d tick q w → Waits d Du (tick +ℤ pos 1) (left_at_end d tick) x → HasLandedUp pre post d tick u link q x
landed_up pre post d tick u link q w x handed sent way = record { handed = handed; waiting = sent.waiting; on_way = way }

-- ---- its end

-- the frames that the radio unit made leave first, and then the next tick begins
pub up_goes_on : {G : Type 0} (pre : G → RePlace → Type 0) (post : G → RePlace → Wide → Type 0) (d : Document) (tick : ℤ) (u : Uplink G) (link q : List LinkFrame) (w x : Way)
    → (landed : HasLandedUp pre post d tick u link q w) → IsReplayable d → first_clock ≤ℤ tick → tick ≤ℤ end_of_time
    → StandsFor (having_sent_all (on_way d Du landed.on_way.sent) (map (made_as tick) (made_at d Ru tick).made)) (tick +ℤ pos 1) x → WaitsUp pre post d (tick +ℤ pos 1) u link q x
up_goes_on pre post d tick u link q w x landed doc begun ended stands =
    let next = tick +ℤ pos 1 in
    let last = sym (last_of_next tick) in
    let made = map (leaving_made tick) (made_at d Ru tick).made in
    let parts : left_at_end d tick ≡ made ++ left_up d next =
    measured_leave ((exchanges d).sent Du) tick (answers_left d next) (answers_later d next) ended
    ∙ ap (λ (fs : List Leaving). fs ++ left_up d next) (made_leave d Ru tick doc begun ended) in
    record {
      handed = subst (λ (t : ℤ). HasHanded pre post d t u link) last landed.handed;
      frames = record {
        waiting = subst (λ (t : ℤ). WaitsFor (length d.config.endpoints) next (handed_by d t) q) last landed.waiting;
        on_way = all_go_out d Du next made (left_up d next) (left_at_end d tick) w x landed.on_way parts stands;
      };
    }
