-- All frames that leave for a unit leave at ticks that are gone over, those of class m in their order.
use Rattle.std.proofs.Common.{◌≡◌, ℕ, ℤ, pos, zero, suc, ◌+ℤ◌, ◌≤ℤ◌, ◌<ℤ◌, inl, inr, List, [], ◌∷◌, ◌++◌, length, refl, ap, sym, ◌∙◌, subst, arith}
use Rattle.std.proofs.lemmas.Int.{ints}
use Rattle.std.specs.Int.Signed.{≤ℤ_refl}
use Rattle.air_source.specs.declared.events.Side.{Side}
use Rattle.air_source.specs.declared.events.Side.TheVariants.{Ru, Du}
use Rattle.air_source.specs.declared.links.LinkFrame.{LinkFrame}
use Rattle.delay_laws.specs.Ticks.{Flight, Setting, after_tick, flight, hearing, launched, state}
use Rattle.delay_measure.specs.declared.message.DelayMessage.{DelayMessage}
use Rattle.document_traffic.specs.Landing.{handed_for, leaving_answer, leaving_to}
use Rattle.document_traffic.specs.Sending.{Leaving, leaving_of, lines_of, sent_for}
use Rattle.fh_document.specs.declared.document.Document.{Document}
use Rattle.plan_model.specs.Sent.{SentFrame, frames_from, sent}
use Rattle.plan_model.specs.declared.lines.PlannedLine.{PlannedLine}
use Rattle.plan_model.specs.SentOrder.{at_time}
use Rattle.schedule_laws.proofs.SentOrderLemmas.{time_is}
use Rattle.unit_model.specs.Radiated.{first_clock}
use Rattle.uplink_model.proofs.SentLemmas.{leaving_leave_then}
use Rattle.uplink_model.specs.Sent.{in_sent_order, leaving_at}
use Rattle.window_config.specs.declared.config.Config.{Config}
use Rattle.document_traffic.proofs.ListLemmas.{ticks_within}
use Rattle.fh_base.proofs.Orders.{frame_low_is as begun}
use Rattle.air_source.specs.Units.{other}
use Rattle.unit_model.specs.Times.{tick_count}
use Rattle.fh_base.specs.Members.{IsIn}
use Rattle.fh_base.proofs.MemberLemmas.{in_either}
use Rattle.fh_base.proofs.MadeLists.{in_all, of_map}
use Rattle.fh_base.proofs.RisingLemmas.{IsRising}

-- ---- when the frames of the classes c and u leave

abbrev pub IsGoneOver : ℤ → Type 0
IsGoneOver t = (first_clock ≤ℤ t) × (t <ℤ (first_clock +ℤ pos tick_count))

sent_within : (c : Config) (lines : List PlannedLine) (f : SentFrame) → IsIn f (sent c lines) → IsGoneOver f.at
unfolding sent
sent_within c lines f m =
    let all = frames_from c lines 0 c.endpoints in
    ticks_within (λ (g : SentFrame). g.at) first_clock tick_count (at_time all) (time_is all) f m

answers_within : (n : ℕ) (fs : List LinkFrame) (f : LinkFrame) → IsIn f (in_sent_order n fs) → IsGoneOver f.at.0
unfolding in_sent_order
answers_within n fs f m =
    ticks_within (λ (g : LinkFrame). g.at.0) first_clock tick_count (leaving_at n fs)
    (λ t g i. in_all (λ (h : LinkFrame). h.at.0 ≡ t) g (leaving_at n fs t) (leaving_leave_then n fs t) i) f m

pub leaves_within : (side : Side) (d : Document) (f : Leaving) → IsIn f (leaving_to side d) → IsGoneOver f.at
leaves_within Ru d f m =
    let w = of_map (leaving_of d) f (sent_for d) m in
    subst (λ (g : Leaving). IsGoneOver g.at) (sym w.2) (sent_within d.config (lines_of d) w.0 w.1)
leaves_within Du d f m =
    let n = length d.config.endpoints in
    let w = of_map leaving_answer f (in_sent_order n (handed_for d)) m in
    subst (λ (g : Leaving). IsGoneOver g.at) (sym w.2) (answers_within n (handed_for d) w.0 w.1)

-- ---- frames of class m are sent in the order of ticks

-- in the order of ticks, none before a first or after a last one
pub record AreUpTo (first last : ℤ) (fs : List Flight) : Type 0 where
  pub rising : IsRising (λ (f : Flight). f.at) fs
  pub within : (f : Flight) → IsIn f fs → (first ≤ℤ f.at) × (f.at ≤ℤ last)

rising_push : (fs : List Flight) (g : Flight) → IsRising (λ (f : Flight). f.at) fs → ((f : Flight) → IsIn f fs → f.at ≤ℤ g.at) → IsRising (λ (f : Flight). f.at) (fs ++ g ∷ [])
rising_push [] g rising before = (λ y m. absurd m, tt)
rising_push (f ∷ fs) g rising before = (
  λ y m. elim (in_either y fs (g ∷ []) m) [
    | inl l ↦ rising.0 y l
    | inr r ↦ elim r [ inl e ↦ subst (λ (h : Flight). f.at ≤ℤ h.at) (sym e) (before f (inl refl)) | inr t ↦ absurd t ]
  ],
  rising_push fs g rising.1 (λ h m. before h (inr m)),
)

pushed : (first last : ℤ) (fs : List Flight) (g : Flight) → first ≤ℤ last → g.at ≡ last → AreUpTo first last fs → AreUpTo first last (fs ++ g ∷ [])
pushed first last fs g order at are = record {
  rising = rising_push fs g are.rising (λ f m. subst (λ (t : ℤ). f.at ≤ℤ t) (sym at) (are.within f m).1);
  within = λ f m. elim (in_either f fs (g ∷ []) m) [
    | inl l ↦ are.within f l
    | inr r ↦ elim r [
      | inl e ↦ subst (λ (t : ℤ). (first ≤ℤ t) × (t ≤ℤ last)) (sym (ap (λ (h : Flight). h.at) e ∙ at)) (order, ≤ℤ_refl last)
      | inr t ↦ absurd t
    ]
  ];
}

launched_up_to : (first last : ℤ) (delays : ℕ → List ℤ) (sent : List Flight) (ms : List DelayMessage) → first ≤ℤ last → AreUpTo first last sent → AreUpTo first last (launched delays last sent ms)
launched_up_to first last delays sent [] order are = are
launched_up_to first last delays sent (m ∷ ms) order are =
    let f : Flight = flight delays last (length sent) m in
    launched_up_to first last delays (sent ++ f ∷ []) ms order (pushed first last sent f order refl are)

before_next : (first : ℤ) (n : ℕ) (t : ℤ) → (first ≤ℤ t) × (t <ℤ (first +ℤ pos n)) → (first ≤ℤ t) × (t ≤ℤ (first +ℤ pos n))
before_next first n t h = (h.0, (let lt = h.1 in omega (arith, ints, lt)))

up_to_next : (first : ℤ) (n : ℕ) (t : ℤ) → (first ≤ℤ t) × (t ≤ℤ (first +ℤ pos n)) → (first ≤ℤ t) × (t <ℤ (first +ℤ pos (suc n)))
up_to_next first n t h = (h.0, (let le = h.1 in omega (arith, ints, le)))

-- in the order of ticks, and within those that are gone over
pub record AreInTicks (first : ℤ) (n : ℕ) (fs : List Flight) : Type 0 where
  pub rising : IsRising (λ (f : Flight). f.at) fs
  pub within : (f : Flight) → IsIn f fs → (first ≤ℤ f.at) × (f.at <ℤ (first +ℤ pos n))

pub flights_in_ticks : (w : Setting) (first : ℤ) (n : ℕ) (side : Side) → AreInTicks first n ((state w first n).sent side)
unfolding state after_tick
flights_in_ticks w first zero side = record { rising = tt; within = λ f m. absurd m }
flights_in_ticks w first (suc n) side =
    let earlier = flights_in_ticks w first n side in
    let last : ℤ = first +ℤ pos n in
    let now = launched_up_to first last (w.delays side) ((state w first n).sent side) ((hearing w last (state w first n)).made (other side)) (begun first n)
    (record { rising = earlier.rising; within = λ f m. before_next first n f.at (earlier.within f m) }) in
    record { rising = now.rising; within = λ f m. up_to_next first n f.at (now.within f m) }
