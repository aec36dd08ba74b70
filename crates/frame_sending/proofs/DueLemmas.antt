-- The frames of a plan that leave at a tick are sent, one after the other.
use Rattle.std.proofs.Common.{◌≡◌, ◌≢◌, ℕ, ℤ, pos, ◌+ℤ◌, ◌≤ℤ◌, ◌<◌, ◌^◌, List, [], ◌∷◌, ◌++◌, All, length, Option, Some, None, inl, refl, sym, ap, ◌∙◌, subst, append_assoc, append-nil, arith}
use Rattle.std.specs.Prelude.{map}
use Rattle.std.specs.Int.Signed.{≤ℤ_refl}
use Rattle.std.proofs.Math.Seq.{drop-append_seam}
use Rattle.std.proofs.lemmas.List.{map-append}
use Rattle.std.proofs.lemmas.List.Elements.{All-cons, All-drop, All-head, All-nil, All-push, All-tail}
use Rattle.std.proofs.lemmas.Option.{same_Some}
use Rattle.air_source.specs.declared.places.RePlace.{RePlace}
use Rattle.bfp_codec.specs.declared.samples.Wide.{Wide}
use Rattle.du_scheduler.proofs.PlanLemmas.{same_rest}
use Rattle.du_scheduler.specs.Plans.{GivesSent, HasToSend, IsPlan, LeavesPlan, plane_of}
use Rattle.du_scheduler.specs.declared.plans.Plan.{Plan}
use Rattle.du_scheduler.specs.declared.plans.Sent.{Sent}
use Rattle.du_scheduler.specs.Queues.{first_time}
use Rattle.plan_model.specs.Sent.{SentFrame}
use Rattle.du_scheduler.specs.Runs.{turn_of}
use Rattle.fh_base.specs.declared.values.Ticks.{Ticks}
use Rattle.frame_ways.specs.Leaving.{Leaving}
use Rattle.fh_document.specs.declared.delivered.TrafficClass.{TrafficClass}
use Rattle.frame_ways.specs.Ways.{OnWay, StandsFor, having_sent, having_sent_all, leaving_as}
use Rattle.frame_ways.specs.declared.way.Way.{Way}
use Rattle.window_config.specs.declared.config.Config.{Config}
use Rattle.window_config.specs.declared.plan.PlanLine.{PlanLine}
use Rattle.frame_sending.specs.Due.{AreSentFrom, AreShort, HasSentDue, MaySend, class_for, leaving_by}
use Rattle.frame_sending.proofs.MeasureLemmas.{frames_left, left_is}
use Rattle.frame_sending.proofs.OrderLemmas.{IsSentTime, first_is_least, sent_less, sent_time}
use Rattle.fh_base.specs.Members.{IsIn}
use Rattle.plan_model.proofs.TickLemmas.{next_tick}

-- ---- the frame that a plan gave

-- it may be sent
pub record MayBeSent (s : Sent) : Type 0 where
  pub time : IsSentTime s.at.0
  pub short : length s.bytes.now < 2 ^ 32

pub may_be_sent : {post : RePlace → Wide → Type 0} (c : Config) (lines : List PlanLine) (left : List SentFrame) (answer : RePlace → Wide) (p : Plan) (s : Sent) → MaySend post c lines left answer p
    → GivesSent c answer left (Some s) → MayBeSent s
may_be_sent c lines left answer p s m gives =
    let f = gives.0 in
    let there : IsIn f left = subst (λ (xs : List SentFrame). IsIn f xs) (sym gives.2) (inl refl) in
    let short = All-head (λ (x : SentFrame). length (leaving_by c answer x).frame < 2 ^ 32) f gives.1 (subst (AreShort c answer) gives.2 m.short) in
    record {
      time = subst IsSentTime (sym gives.3.at) (sent_time c lines p f left m.plan there);
      short = subst (λ (bytes : List ℕ). length bytes < 2 ^ 32) (sym gives.3.bytes) short;
    }

first_is : (f g : SentFrame) (rest more : List SentFrame) → f ∷ rest ≡ g ∷ more → g ≡ f
first_is f g rest more e = cc e

-- it is sent as it leaves
pub leaves_as : (c : Config) (answer : RePlace → Wide) (s : Sent) (k : TrafficClass) (f : SentFrame) (rest : List SentFrame) → k ≡ class_for s.plane → GivesSent c answer (f ∷ rest) (Some s)
    → leaving_as s.at.0 k s.bytes.now ≡ leaving_by c answer f
leaves_as c answer s k f rest class gives =
    let g = gives.0 in
    let is = gives.3 in
    ap (λ (t : ℤ). leaving_as t k s.bytes.now) is.at
    ∙ ap (λ (x : TrafficClass). leaving_as g.at x s.bytes.now) (class ∙ ap class_for is.plane)
    ∙ ap (λ (bytes : List ℕ). leaving_as g.at (class_for (plane_of g.stream)) bytes) is.bytes
    ∙ ap (leaving_by c answer) (first_is f g rest gives.1 gives.2)

pub leaves_then : (c : Config) (answer : RePlace → Wide) (s : Sent) (f : SentFrame) (rest : List SentFrame) (now : ℤ) → GivesSent c answer (f ∷ rest) (Some s) → now ≤ℤ f.at → now ≤ℤ s.at.0
leaves_then c answer s f rest now gives low =
    subst (λ (t : ℤ). now ≤ℤ t) (sym (gives.3.at ∙ ap (λ (x : SentFrame). x.at) (first_is f gives.0 rest gives.1 gives.2))) low

-- the plan has the rest then
pub has_rest : (c : Config) (lines : List PlanLine) (f : SentFrame) (rest : List SentFrame) (old new : Plan) (r : Option Sent) (s : Sent) → r ≡ Some s → LeavesPlan old new r
    → HasToSend c lines (f ∷ rest) old → HasToSend c lines rest new
has_rest c lines f rest old new r s some leaves h =
    let then = subst (LeavesPlan {X = Sent} old new) some leaves c lines (f ∷ rest) h in
    subst (λ (xs : List SentFrame). HasToSend c lines xs new) (sym (same_rest f then.0 rest then.1 then.2)) then.3

-- a plan that has one gives one
pub gives_one : (c : Config) (lines : List PlanLine) (f : SentFrame) (rest : List SentFrame) (old new : Plan) (r : Option Sent) → r ≡ None → LeavesPlan old new r → HasToSend c lines (f ∷ rest) old → ⊥
gives_one c lines f rest old new r none leaves h =
    let over = (subst (LeavesPlan {X = Sent} old new) none leaves c lines (f ∷ rest) h).0 in
    absurd (cc over)

-- ---- all of a tick

-- these went out, which leave at the tick, and the rest is left
pub record IsSending (post : RePlace → Wide → Type 0) (c : Config) (lines : List PlanLine) (left : List SentFrame) (answer : RePlace → Wide) (tick : ℤ) (before : Way) (p : Plan) (w : Way) : Type 0 where
  pub gone : List SentFrame
  pub rest : List SentFrame
  pub parts : left ≡ gone ++ rest
  pub at : All (λ f. f.at ≡ tick) gone
  pub may : MaySend post c lines rest answer p
  pub way : (v : OnWay) → StandsFor v tick before → StandsFor (having_sent_all v (map (leaving_by c answer) gone)) tick w

abbrev with_these : OnWay → List Leaving → OnWay
with_these v fs = record { document = v.document; side = v.side; sent = fs }

first_at : (f : SentFrame) (rest : List SentFrame) (tick : Ticks) → first_time (map turn_of (f ∷ rest)) ≡ Some tick → f.at ≡ tick.0
first_at f rest tick is = ap (λ (t : Ticks). t.0) (same_Some _ _ is)

module _ (post : RePlace → Wide → Type 0) (c : Config) (lines : List PlanLine) (left : List SentFrame) (answer : RePlace → Wide) (tick : Ticks) (before : Way) where
  pub none_gone : (p : Plan) → MaySend post c lines left answer p → IsSending post c lines left answer tick.0 before p before
  none_gone p may = record {
    gone = [];
    rest = left;
    parts = refl;
    at = All-nil _;
    may = may;
    way = λ v stands. subst (λ (fs : List Leaving). StandsFor (with_these v fs) tick.0 before) (sym (append-nil v.sent)) stands;
  }

  module _ (p : Plan) (w : Way) (so_far : IsSending post c lines left answer tick.0 before p w) where
    pub plan_is : IsPlan p
    plan_is = record { config = c; lines = lines; left = so_far.rest; is = so_far.may.plan }

    module _ (first : first_time (map turn_of so_far.rest) ≡ Some tick) (q : Plan) (rested : (f : SentFrame) (rest : List SentFrame) → HasToSend c lines (f ∷ rest) p → HasToSend c lines rest q) where
      -- the next one went out too
      pub one_gone : (x : Way)
          → ((f : SentFrame) (rest : List SentFrame) (v : OnWay) → MaySend post c lines (f ∷ rest) answer p → tick.0 ≤ℤ f.at → StandsFor v tick.0 w
          → StandsFor (having_sent v (leaving_by c answer f)) tick.0 x)
          → IsSending post c lines left answer tick.0 before q x
      one_gone x sent = go so_far.rest refl
        where
          go : (rest : List SentFrame) → so_far.rest ≡ rest → IsSending post c lines left answer tick.0 before q x
          go [] e = let none : None ≡ Some tick = sym (ap (λ (xs : List SentFrame). first_time (map turn_of xs)) e) ∙ first in absurd (cc none)
          go (f ∷ rest) e =
              let may = subst (λ (xs : List SentFrame). MaySend post c lines xs answer p) e so_far.may in
              let at = first_at f rest tick (sym (ap (λ (xs : List SentFrame). first_time (map turn_of xs)) e) ∙ first) in
              record {
                gone = so_far.gone ++ f ∷ [];
                rest = rest;
                parts = so_far.parts ∙ ap (λ (xs : List SentFrame). so_far.gone ++ xs) e ∙ sym (append_assoc so_far.gone (f ∷ []) rest);
                at = All-push (λ (g : SentFrame). g.at ≡ tick.0) so_far.gone f so_far.at at;
                may = record {
                  answers = may.answers;
                  plan = rested f rest may.plan;
                  short = All-tail (λ (g : SentFrame). length (leaving_by c answer g).frame < 2 ^ 32) f rest may.short;
                };
                way = λ v stands.
                    let gone = map (leaving_by c answer) so_far.gone in
                    let all : (v.sent ++ gone) ++ leaving_by c answer f ∷ [] ≡ v.sent ++ map (leaving_by c answer) (so_far.gone ++ f ∷ []) =
                    append_assoc v.sent gone (leaving_by c answer f ∷ []) ∙ ap (λ (fs : List Leaving). v.sent ++ fs) (sym (map-append (leaving_by c answer) so_far.gone (f ∷ []))) in
                    subst (λ (fs : List Leaving). StandsFor (with_these v fs) tick.0 x) all
                    (sent f rest (having_sent_all v gone) may (subst (λ (t : ℤ). tick.0 ≤ℤ t) (sym at) (≤ℤ_refl tick.0)) (so_far.way v stands));
              }

      -- one frame fewer is left
      pub fewer_frames : frames_left q < frames_left p
      fewer_frames = go so_far.rest refl
        where
          go : (rest : List SentFrame) → so_far.rest ≡ rest → frames_left q < frames_left p
          go [] e = let none : None ≡ Some tick = sym (ap (λ (xs : List SentFrame). first_time (map turn_of xs)) e) ∙ first in absurd (cc none)
          go (f ∷ rest) e =
              let plan = subst (λ (xs : List SentFrame). HasToSend c lines xs p) e so_far.may.plan in
              let more = left_is c lines (f ∷ rest) p plan in
              let less = left_is c lines rest q (rested f rest plan) in
              omega (arith, more, less)

    -- none is left to be sent at the tick
    none_left : AreSentFrom tick.0 so_far.rest → first_time (map turn_of so_far.rest) ≢ Some tick → AreSentFrom (tick.0 +ℤ pos 1) so_far.rest
    none_left from other = go so_far.rest refl
      where
        go : (rest : List SentFrame) → so_far.rest ≡ rest → AreSentFrom (tick.0 +ℤ pos 1) rest
        go [] e = All-nil _
        go (f ∷ rest) e =
            let here = All-head (λ (g : SentFrame). tick.0 ≤ℤ g.at) f rest (subst (AreSentFrom tick.0) e from) in
            let differs : f.at ≢ tick.0 = λ same. other (ap (λ (xs : List SentFrame). first_time (map turn_of xs)) e ∙ ap (λ (z : ℤ). Some (let k : Ticks = record { 0 = z } in k)) same) in
            let later = next_tick tick.0 f.at here differs in
            let plan = subst (λ (xs : List SentFrame). HasToSend c lines xs p) e so_far.may.plan in
            All-cons (λ (g : SentFrame). (tick.0 +ℤ pos 1) ≤ℤ g.at) f rest later (sent_less (tick.0 +ℤ pos 1) f.at rest later (first_is_least c lines p f rest plan))

    pub all_gone : (v : OnWay) → AreSentFrom tick.0 left → StandsFor v tick.0 before → first_time (map turn_of so_far.rest) ≢ Some tick → HasSentDue c lines left answer v tick.0 p w
    all_gone v from stands other =
        let P = λ (f : SentFrame). tick.0 ≤ℤ f.at in
        let rest = subst (All P) (drop-append_seam so_far.gone so_far.rest) (All-drop P (length so_far.gone) (so_far.gone ++ so_far.rest) (subst (All P) so_far.parts from)) in
        record {
          gone = so_far.gone;
          rest = so_far.rest;
          parts = so_far.parts;
          at = so_far.at;
          later = none_left rest other;
          plan = so_far.may.plan;
          way = so_far.way v stands;
        }
