-- What is still to be received at the radio unit, from one tick to the next moment, and over it.
use Rattle.std.proofs.Common.{◌≡◌, ℤ, pos, ◌+ℤ◌, ◌-ℤ◌, ◌≤ℤ◌, ◌<ℤ◌, List, [], ◌∷◌, ◌++◌, All, refl, ap, ap₂, ◌∙◌, subst}
use Rattle.std.specs.Prelude.{map}
use Rattle.std.specs.Int.Signed.{≤ℤ_refl}
use Rattle.std.proofs.lemmas.List.Elements.{All-head, All-map, All-tail}
use Rattle.std.proofs.lemmas.List.{map-append}
use Rattle.air_source.specs.Answers.{AnswersBy}
use Rattle.air_source.specs.declared.events.Side.TheVariants.{Ru as AtRu, Du as AtDu}
use Rattle.air_source.specs.declared.places.RePlace.{RePlace}
use Rattle.bfp_codec.specs.declared.samples.Wide.{Wide}
use Rattle.du_scheduler.specs.Plans.{HasToSend, IsPlan, plane_of}
use Rattle.du_scheduler.specs.declared.plans.Plan.{Plan}
use Rattle.plan_model.specs.Sent.{SentFrame}
use Rattle.plan_model.specs.declared.streams.Stream.{Stream}
use Rattle.plan_model.specs.declared.streams.Stream.TheVariants.{DownCommands, UpCommands, DownData, UpData}
use Rattle.fh_base.proofs.Orders.{beyond_next}
use Rattle.frame_ways.specs.Leaving.{Leaving}
use Rattle.fh_document.specs.declared.delivered.TrafficClass.{TrafficClass}
use Rattle.frame_sending.specs.Due as due
use Rattle.frame_sending.specs.Due.{AreSentFrom, HasSentDue, MaySend, leaving_by}
use Rattle.frame_ways.specs.Ways.{IsCalmTo, StandsFor, having_sent_all, landings_on}
use Rattle.frame_ways.specs.declared.way.Way.{Way}
use Rattle.document_traffic.proofs.LeaveLemmas.{first_leaves, leaving_waits, measured_leave}
use Rattle.document_traffic.proofs.TurnLemmas.{flights_wait, made_leave}
use Rattle.document_traffic.specs.Measured.{exchanges}
use Rattle.document_traffic.specs.Replayed.{all_leaving, leaving_from, leaving_made, made_at}
use Rattle.document_traffic.specs.Turns.{IsQuietBetween}
use Rattle.delay_laws.specs.Ticks.{Flight}
use Rattle.document_traffic.specs.Laws.{IsReplayable}
use Rattle.document_traffic.specs.Sending.{class_of, leaving_of, sent_for, source_for}
use Rattle.fh_document.specs.declared.document.Document.{Document}
use Rattle.replay_laws.specs.Moments.{end_of_time}
use Rattle.unit_laws.proofs.HistoryTicks.{last_reached}
use Rattle.air_source.specs.Tones.{tone_of}
use Rattle.unit_model.specs.Radiated.{first_clock}
use Rattle.sent_frames.specs.Frames.{sent_bytes}
use Rattle.unit_moments.specs.Made.{made_as}
use Rattle.fronthaul_replay.specs.Down.{HasLandedDown, HasSentDown, WaitsDown, left_down}
use Rattle.fronthaul_replay.specs.Waiting.{LandsAfter, Waits, on_way}
use Rattle.fronthaul_replay.proofs.LeavingLemmas.{leaving_lands_after}
use Rattle.frame_sending.proofs.OrderLemmas.{sent_less}
use Rattle.fronthaul_replay.proofs.OrderLemmas.{all_begun, left_short}
use Rattle.fronthaul_replay.proofs.WayLemmas.{all_go_out, waits_until}

pub plan_of : (d : Document) (now : ℤ) (p : Plan) (w : Way) → WaitsDown d now p w → IsPlan p
plan_of d now p w waits = record { config = d.config; lines = d.plan; left = waits.left; is = waits.plan }

-- the frames of delay measurement that are sent to the unit
abbrev flights : Document → List Flight
flights d = (exchanges d).sent AtRu

-- at the start nothing was sent
pub down_begins : (d : Document) (p : Plan) (w : Way) → HasToSend d.config d.plan (sent_for d) p → Waits d AtRu first_clock (all_leaving AtRu d) w → WaitsDown d first_clock p w
down_begins d p w plan way = record { left = sent_for d; plan = plan; later = all_begun d p (sent_for d) plan; way = way }

-- ---- before the next moment

leave_from : (d : Document) (now : ℤ) (fs : List SentFrame) → AreSentFrom now fs → All (λ (f : Leaving). now ≤ℤ f.at) (map (leaving_of d) fs)
leave_from d now fs later = All-map (λ (f : Leaving). now ≤ℤ f.at) (leaving_of d) fs later

-- of the frames that are still to be sent none leaves before the moment
pub sent_later : (tick : ℤ) (left : List SentFrame) → AreSentFrom ((tick -ℤ pos 1) +ℤ pos 1) left → AreSentFrom tick left
sent_later tick left none = sent_less tick ((tick -ℤ pos 1) +ℤ pos 1) left (last_reached tick tick (≤ℤ_refl tick)) none

pub leave_later : (d : Document) (tick : ℤ) (left : List SentFrame) → AreSentFrom ((tick -ℤ pos 1) +ℤ pos 1) left → All (λ (f : Leaving). tick ≤ℤ f.at) (map (leaving_of d) left)
leave_later d tick left none = leave_from d tick left (sent_later tick left none)

-- where nothing lands at either unit and none measures before it, all is then as it was
pub waits_at : (d : Document) (now tick : ℤ) (p : Plan) (w : Way) → IsReplayable d → (waits : WaitsDown d now p w) → first_clock ≤ℤ now → now ≤ℤ tick → tick ≤ℤ (end_of_time +ℤ pos 1)
    → AreSentFrom ((tick -ℤ pos 1) +ℤ pos 1) waits.left → IsCalmTo (landings_on (on_way d AtRu waits.way.sent)) now (tick -ℤ pos 1) → IsQuietBetween d now tick → WaitsDown d tick p w
waits_at d now tick p w doc waits begun order ended none calm quiet =
    let ls = map (leaving_of d) waits.left in
    let same = leaving_waits (flights d) now tick ls (leave_later d tick waits.left none) order ended (flights_wait d AtRu now tick doc begun ended quiet) in
    record {
      left = waits.left;
      plan = waits.plan;
      later = sent_later tick waits.left none;
      way = subst (λ (fs : List Leaving). Waits d AtRu tick fs w) same (waits_until d AtRu now tick (left_down d waits.left now) w waits.way order calm);
    }

-- ---- the frames of the tick go out

class_same : (s : Stream) → due.class_for (plane_of s) ≡ class_of s
class_same DownCommands = refl
class_same UpCommands = refl
class_same DownData = refl
class_same UpData = refl

leaving_same : (d : Document) (f : SentFrame) → leaving_by d.config (tone_of d.source) f ≡ leaving_of d f
leaving_same d f = ap (λ (k : TrafficClass). let x : Leaving = record { at = f.at; class = k; frame = sent_bytes d.config (source_for d) f } in x) (class_same f.stream)

all_same : (d : Document) (fs : List SentFrame) → map (leaving_by d.config (tone_of d.source)) fs ≡ map (leaving_of d) fs
all_same d [] = refl
all_same d (f ∷ fs) = ap₂ (λ (x : Leaving) (xs : List Leaving). x ∷ xs) (leaving_same d f) (all_same d fs)

-- those that leave at a tick are the first of all that leave from it on
pub first_all : (fs : List Flight) (now : ℤ) (gone rest : List Leaving) → All (λ (f : Leaving). f.at ≡ now) gone → now ≤ℤ end_of_time
    → leaving_from (gone ++ rest) fs now ≡ gone ++ leaving_from rest fs now
first_all fs now [] rest at ended = refl
first_all fs now (f ∷ gone) rest at ended =
    first_leaves fs now f (gone ++ rest) (All-head (λ (g : Leaving). g.at ≡ now) f gone at) ended
    ∙ ap (λ (xs : List Leaving). f ∷ xs) (first_all fs now gone rest (All-tail (λ (g : Leaving). g.at ≡ now) f gone at) ended)

pub may_send : (post : RePlace → Wide → Type 0) (d : Document) (tick : ℤ) (p : Plan) (w : Way) → IsReplayable d → AnswersBy post (tone_of d.source) → (waits : WaitsDown d tick p w)
    → MaySend post d.config d.plan waits.left (tone_of d.source) p
may_send post d tick p w doc tone waits = record { answers = tone; plan = waits.plan; short = left_short d p waits.left doc waits.plan }

pub has_sent : (d : Document) (tick : ℤ) (p q : Plan) (w x : Way) → (waits : WaitsDown d tick p w) → tick ≤ℤ end_of_time
    → HasSentDue d.config d.plan waits.left (tone_of d.source) (on_way d AtRu waits.way.sent) tick q x → HasSentDown d tick q x
has_sent d tick p q w x waits ended s =
    let gone = map (leaving_of d) s.gone in
    let parts : left_down d waits.left tick ≡ gone ++ left_down d s.rest tick =
    ap (λ (fs : List SentFrame). left_down d fs tick) s.parts
    ∙ ap (λ (ls : List Leaving). leaving_from ls (flights d) tick) (map-append (leaving_of d) s.gone s.rest)
    ∙ first_all (flights d) tick gone (map (leaving_of d) s.rest) (All-map (λ (f : Leaving). f.at ≡ tick) (leaving_of d) s.gone s.at) ended in
    record {
      left = s.rest;
      plan = s.plan;
      later = s.later;
      way = all_go_out d AtRu tick gone (left_down d s.rest tick) (left_down d waits.left tick) w x waits.way parts
          (subst (λ (ls : List Leaving). StandsFor (having_sent_all (on_way d AtRu waits.way.sent) ls) tick x) (all_same d s.gone) s.way);
    }

-- ---- the moment itself

after_it : (d : Document) (tick : ℤ) (fs : List SentFrame) → AreSentFrom (tick +ℤ pos 1) fs → All (λ (f : Leaving). tick <ℤ f.at) (map (leaving_of d) fs)
after_it d tick fs later = All-map (λ (f : Leaving). tick <ℤ f.at) (leaving_of d) fs (λ k g lt. beyond_next tick _ (later k g lt))

-- what is still to be sent lands after it
pub down_later : (d : Document) (tick : ℤ) (p : Plan) (w : Way) → (s : HasSentDown d tick p w) → All (LandsAfter tick) (left_down d s.left tick)
down_later d tick p w s = leaving_lands_after (flights d) tick (map (leaving_of d) s.left) (after_it d tick s.left s.later)

pub landed_down : (d : Document) (tick : ℤ) (p : Plan) (w x : Way) → (s : HasSentDown d tick p w) → Waits d AtRu (tick +ℤ pos 1) (left_down d s.left tick) x → HasLandedDown d tick p x
landed_down d tick p w x s way = record { left = s.left; plan = s.plan; later = s.later; way = way }

-- ---- its end

-- the frames that the distributed unit made leave first, and then the next tick begins
pub down_goes_on : (d : Document) (tick : ℤ) (p : Plan) (w x : Way) → (landed : HasLandedDown d tick p w) → IsReplayable d → first_clock ≤ℤ tick → tick ≤ℤ end_of_time
    → StandsFor (having_sent_all (on_way d AtRu landed.way.sent) (map (made_as tick) (made_at d AtDu tick).made)) (tick +ℤ pos 1) x → WaitsDown d (tick +ℤ pos 1) p x
down_goes_on d tick p w x landed doc begun ended stands =
    let ls = map (leaving_of d) landed.left in
    let next = left_down d landed.left (tick +ℤ pos 1) in
    let made = map (leaving_made tick) (made_at d AtDu tick).made in
    let parts : left_down d landed.left tick ≡ made ++ next =
    measured_leave (flights d) tick ls (leave_from d (tick +ℤ pos 1) landed.left landed.later) ended
    ∙ ap (λ (fs : List Leaving). fs ++ next) (made_leave d AtDu tick doc begun ended) in
    record {
      left = landed.left;
      plan = landed.plan;
      later = landed.later;
      way = all_go_out d AtRu (tick +ℤ pos 1) made next (left_down d landed.left tick) w x landed.way parts stands;
    }
