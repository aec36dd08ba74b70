-- The frames that a plan has still to send: each at its time, none before the first of them.
use Rattle.std.proofs.Common.{ℤ, pos, ◌+ℤ◌, ◌≤ℤ◌, ◌<ℤ◌, ◌≡◌, ◌<◌, ◌^◌, List, [], ◌∷◌, Option, Some, None, length, sym, subst, arith}
use Rattle.std.specs.Prelude.{map}
use Rattle.std.proofs.lemmas.Int.{ints}
use Rattle.std.proofs.lemmas.List.Elements.{All-cons, All-head, All-nil}
use Rattle.std.proofs.lemmas.Option.{same_Some}
use Rattle.air_source.specs.declared.events.Side.TheVariants.{Ru as AtRu}
use Rattle.fh_base.specs.Least.{IsLeastOf}
use Rattle.fh_base.specs.declared.values.Ticks.{Ticks}
use Rattle.frame_ways.specs.Leaving.{Leaving}
use Rattle.frame_sending.specs.Due.{AreSentFrom, AreShort, leaving_by}
use Rattle.du_scheduler.specs.Plans.{HasToSend}
use Rattle.du_scheduler.specs.declared.plans.Plan.{Plan}
use Rattle.du_scheduler.specs.Queues.{first_time}
use Rattle.plan_model.specs.Sent.{SentFrame}
use Rattle.schedule_laws.proofs.SentTimeLemmas.{IsInTime, all_in_time}
use Rattle.du_scheduler.specs.Runs.{turn_of}
use Rattle.document_traffic.proofs.ShortLemmas.{are_short}
use Rattle.document_traffic.specs.Landing.{leaving_to}
use Rattle.document_traffic.specs.Laws.{IsReplayable}
use Rattle.document_traffic.specs.Sending.{leaving_of, sent_for}
use Rattle.fh_document.specs.declared.document.Document.{Document}
use Rattle.air_source.specs.Tones.{tone_of}
use Rattle.unit_model.specs.Radiated.{first_clock}
use Rattle.window_config.specs.declared.config.Config.{Config}
use Rattle.window_config.specs.declared.plan.PlanLine.{PlanLine}
use Rattle.frame_sending.proofs.OrderLemmas.{first_is_least, sent_less, in_frames, is_sent}
use Rattle.fh_base.proofs.MemberLemmas.{all_of}
use Rattle.fh_base.proofs.MadeLists.{in_all, in_map}
use Rattle.fh_base.proofs.Orders.{next_after}

-- ---- each is sent at a time that is gone over

begun_time : (t : ℤ) → IsInTime t → first_clock ≤ℤ t
begun_time t h = h.0

pub all_begun : (d : Document) (p : Plan) (left : List SentFrame) → HasToSend d.config d.plan left p → AreSentFrom first_clock left
all_begun d p left h =
    all_of (λ (f : SentFrame). first_clock ≤ℤ f.at) left
    (λ f m. begun_time f.at (all_in_time d.config d.plan h.config h.fit h.valid f (in_frames d.config d.plan f (is_sent d.config d.plan p f left h m))))

-- and each is short enough for an air
pub left_short : (d : Document) (p : Plan) (left : List SentFrame) → IsReplayable d → HasToSend d.config d.plan left p → AreShort d.config (tone_of d.source) left
left_short d p left doc h =
    all_of (λ (f : SentFrame). length (leaving_by d.config (tone_of d.source) f).frame < 2 ^ 32) left
    (λ f m.
    in_all (λ (x : Leaving). length x.frame < 2 ^ 32) (leaving_of d f) (leaving_to AtRu d) (are_short d AtRu doc.document doc.valid)
    (in_map (leaving_of d) f (sent_for d) (is_sent d.config d.plan p f left h m)))

-- ---- none leaves before the first one

not_past : (t : ℤ) → (t +ℤ pos 1) ≤ℤ t → ⊥
not_past t h = omega (arith, ints, h)

-- the time of the first one is the least at which one leaves
pub first_sends : (c : Config) (lines : List PlanLine) (left : List SentFrame) (p : Plan) (o : Option Ticks) → HasToSend c lines left p → o ≡ first_time (map turn_of left)
    → IsLeastOf (λ to. AreSentFrom (to +ℤ pos 1) left) o
first_sends c lines [] p None h is = λ to. All-nil _
first_sends c lines (f ∷ left) p None h is = absurd (cc is)
first_sends c lines [] p (Some t) h is = absurd (cc is)
first_sends c lines (f ∷ left) p (Some t) h is =
    let same : t ≡ record { 0 = f.at } = same_Some _ _ is in
    record {
      before = λ to lt.
          let order = next_after to f.at (subst (λ (x : Ticks). to <ℤ x.0) same lt) in
          All-cons (λ (g : SentFrame). (to +ℤ pos 1) ≤ℤ g.at) f left order (sent_less (to +ℤ pos 1) f.at left order (first_is_least c lines p f left h));
      at = λ from. not_past t.0 (subst (λ (x : Ticks). (t.0 +ℤ pos 1) ≤ℤ x.0) (sym same) (All-head (λ (g : SentFrame). (t.0 +ℤ pos 1) ≤ℤ g.at) f left from));
    }
