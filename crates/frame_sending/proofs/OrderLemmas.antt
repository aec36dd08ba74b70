-- The frames that a plan has still to send: each at its time, none before the first of them.
use Rattle.std.proofs.Common.{◌≡◌, ℕ, ℤ, pos, ◌+◌, ◌<◌, ◌+ℤ◌, ◌≤ℤ◌, Bool, true, false, List, [], ◌∷◌, inl, inr, refl, sym, ap, ◌∙◌, subst, arith}
use Rattle.std.specs.Prelude.{map, filter, if◌then◌else◌}
use Rattle.std.specs.Int.{int_gap}
use Rattle.std.specs.Ordering.{int_eq}
use Rattle.std.proofs.lemmas.Int.{ints}
use Rattle.std.proofs.lemmas.List.Elements.{All-head, All-tail}
use Rattle.du_scheduler.specs.Plans.{HasToSend}
use Rattle.du_scheduler.specs.declared.plans.Plan.{Plan}
use Rattle.du_scheduler.proofs.TurnOrder.{own, same_turn}
use Rattle.du_scheduler.specs.Turns.{is_turn, times}
use Rattle.du_scheduler.specs.declared.turns.Turn.{Turn}
use Rattle.plan_model.specs.Lines.{planned}
use Rattle.plan_model.specs.Sent.{SentFrame, frames_from, sent}
use Rattle.schedule_laws.proofs.LeastLemmas.{leaving, sent_rising}
use Rattle.du_scheduler.specs.Runs.{turn_of}
use Rattle.schedule_laws.proofs.SentTimeLemmas.{IsInTime, all_in_time}
use Rattle.unit_model.specs.Radiated.{first_clock}
use Rattle.unit_model.specs.Times.{end_of_time}
use Rattle.window_config.specs.declared.config.Config.{Config}
use Rattle.window_config.specs.declared.plan.PlanLine.{PlanLine}
use Rattle.frame_sending.specs.Due.{AreSentFrom}
use Rattle.fh_base.proofs.Orders.{at_most}
use Rattle.fh_base.specs.Members.{IsIn}
use Rattle.fh_base.proofs.MemberLemmas.{in_right, of_filter, all_of}
use Rattle.fh_base.proofs.MadeLists.{of_tick}
use Rattle.fh_base.proofs.EachLemmas.{gap_is}
use Rattle.fh_base.proofs.RisingLemmas.{IsRising, rising_behind}

-- ---- each is sent at a time that is gone over

pub in_frames : (c : Config) (lines : List PlanLine) (f : SentFrame) → IsIn f (sent c (planned c.endpoints lines)) → IsIn f (frames_from c (planned c.endpoints lines) 0 c.endpoints)
unfolding sent
in_frames c lines f m =
    let all = frames_from c (planned c.endpoints lines) 0 c.endpoints in
    let w = of_tick f first_clock (int_gap first_clock (end_of_time +ℤ pos 1)) (λ (t : ℤ). filter (λ (g : SentFrame). int_eq g.at t) all) m in
    (of_filter (λ (g : SentFrame). int_eq g.at w.0) f all w.1).0

pub record IsSentTime (t : ℤ) : Type 0 where
  pub begun : first_clock ≤ℤ t
  pub ended : t ≤ℤ end_of_time

time_is : (t : ℤ) → IsInTime t → IsSentTime t
time_is t h =
    let gap = gap_is first_clock (end_of_time +ℤ pos 1) (omega (arith, ints)) in
    let high = h.1 in
    record { begun = h.0; ended = omega (arith, ints, gap, high) }

pub is_sent : (c : Config) (lines : List PlanLine) (p : Plan) (f : SentFrame) (left : List SentFrame) → HasToSend c lines left p → IsIn f left → IsIn f (sent c (planned c.endpoints lines))
is_sent c lines p f left h m = subst (λ (fs : List SentFrame). IsIn f fs) (sym h.all) (in_right f h.given left m)

pub sent_time : (c : Config) (lines : List PlanLine) (p : Plan) (f : SentFrame) (left : List SentFrame) → HasToSend c lines left p → IsIn f left → IsSentTime f.at
sent_time c lines p f left h m = time_is f.at (all_in_time c lines h.config h.fit h.valid f (in_frames c lines f (is_sent c lines p f left h m)))

-- ---- none leaves before the first one

pub first_is_least : (c : Config) (lines : List PlanLine) (p : Plan) (f : SentFrame) (left : List SentFrame) → HasToSend c lines (f ∷ left) p → AreSentFrom f.at left
first_is_least c lines p f left h =
    let rising = subst (IsRising leaving) h.all (sent_rising c (planned c.endpoints lines)) in
    all_of (λ (g : SentFrame). f.at ≤ℤ g.at) left (λ g m. (rising_behind leaving h.given (f ∷ left) rising).0 g m)

pub sent_less : (a b : ℤ) (fs : List SentFrame) → a ≤ℤ b → AreSentFrom b fs → AreSentFrom a fs
sent_less a b fs order h = λ k d lt. at_most a b _ order (h k d lt)

-- ---- what a plan has still to send is one list, but for what is not known of its frames

there : (a : ℤ) (t : Turn) (fs : List SentFrame) → 0 < times t (map turn_of fs) → AreSentFrom a fs → a ≤ℤ t.at.0
there a t [] some from = absurd (omega (arith, some))
there a t (f ∷ fs) some from = go (is_turn t (turn_of f)) refl some (λ k. there a t fs k (All-tail (λ (g : SentFrame). a ≤ℤ g.at) f fs from))
  where
    go : (b : Bool) → is_turn t (turn_of f) ≡ b → 0 < (if b then 1 else 0) + times t (map turn_of fs) → (0 < times t (map turn_of fs) → a ≤ℤ t.at.0) → a ≤ℤ t.at.0
    go true e k next = subst (λ (u : Turn). a ≤ℤ u.at.0) (sym (same_turn t (turn_of f) e)) (All-head (λ (g : SentFrame). a ≤ℤ g.at) f fs from)
    go false e k next = next (omega (arith, k))

stands_in : (f : SentFrame) (fs : List SentFrame) → IsIn f fs → 0 < times (turn_of f) (map turn_of fs)
stands_in f [] m = absurd m
stands_in f (g ∷ fs) (inl same) =
    let self : times (turn_of f) (map turn_of (g ∷ fs)) ≡ 1 + times (turn_of f) (map turn_of fs)
    = subst (λ (x : SentFrame). times (turn_of f) (map turn_of (x ∷ fs)) ≡ 1 + times (turn_of f) (map turn_of fs)) same
    (ap (λ (b : Bool). (if b then 1 else 0) + times (turn_of f) (map turn_of fs)) (own (turn_of f))) in
    omega (arith, self)
stands_in f (g ∷ fs) (inr m) = let rest = stands_in f fs m in omega (arith, rest)

pub from_any : (a : ℤ) (p : Plan) (c e : Config) (lines others : List PlanLine) (left rest : List SentFrame) → HasToSend c lines left p → HasToSend e others rest p → AreSentFrom a left
    → AreSentFrom a rest
from_any a p c e lines others left rest h k from =
    all_of (λ (f : SentFrame). a ≤ℤ f.at) rest
    (λ f m. there a (turn_of f) left (subst (λ (n : ℕ). 0 < n) (sym (k.stands.same (turn_of f)) ∙ h.stands.same (turn_of f)) (stands_in f rest m)) from)
