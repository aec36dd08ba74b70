-- The unit that sent the request: what it receives.
use Rattle.std.proofs.Common.{◌≡◌, ℕ, ℤ, Bool, List, [], ◌++◌, Some, refl, sym, ap, ◌∙◌, subst, inl, inr}
use Rattle.std.specs.Prelude.{All, map}
use Rattle.std.proofs.lemmas.List.{append-nil}
use Rattle.delay_measure.specs.declared.message.DelayMessage.{DelayMessage}
use Rattle.delay_measure.specs.declared.stamps.Stamp.{Stamp}
use Rattle.delay_measure.specs.declared.states.Exchange.{Exchange}
use Rattle.delay_measure.specs.declared.states.OwnState.{OwnState}
use Rattle.delay_measure.specs.declared.states.OwnState.TheVariants.{Idle, Waiting, Remote, Done}
use Rattle.delay_measure.specs.declared.states.PeerState.{PeerState}
use Rattle.delay_measure.specs.declared.steps.MeterStep.{MeterStep}
use Rattle.delay_measure.specs.Payload.{value_of}
use Rattle.delay_measure.specs.Stamps.{sending_ns, delay_between}
use Rattle.delay_measure.specs.Table.{after_message, remote_in, remote_two_in, response_in, sent_at_step}
use Rattle.delay_measure.specs.declared.edge.Compensation.{Compensation}
use Rattle.delay_laws.specs.Nodes.{Node, Timed, delay_of, requests, timed}
use Rattle.delay_laws.proofs.Answering.{arrived, no_delay, some_same}
use Rattle.delay_laws.proofs.Phases.{HasSent, IsNothing, IsPart, IsReply, IsResponse, Requested}

-- what a step of this unit leaves as it should be, and the delay that it makes known
pub record IsTaken (c : Compensation) (at : ℤ) (m : DelayMessage) (p : Exchange × MeterStep) : Type 0 where
  pub own : HasSent c at p.0.own
  pub peer : IsNothing p.0.peer
  pub none : sent_at_step p.1 ≡ []
  pub delay : (v : ℤ) → delay_of p.1 ≡ Some v → v ≡ delay_between (sending_ns at c.sending) c.sending (value_of m) m.comp

-- a request that was asked for is received again
pub remote_again : (c : Compensation) (at : ℤ) (m : DelayMessage) (own : OwnState) (peer : PeerState) (id : ℕ) (now : Stamp) → HasSent c at own → IsNothing peer
    → IsTaken c at m (remote_in own peer id now) × ((v : ℤ) → delay_of (remote_in own peer id now).1 ≡ Some v → ⊥)
remote_again c at m Idle peer id now sent none = elim sent [ ]
remote_again c at m (Waiting stamp) peer id now sent none = (record { own = sent; peer = none; none = refl; delay = λ v is. no_delay v is }, λ v is. no_delay v is)
remote_again c at m Remote peer id now sent none = elim sent [ ]
remote_again c at m Done peer id now sent none = (record { own = tt; peer = none; none = refl; delay = λ v is. no_delay v is }, λ v is. no_delay v is)

pub remote_two_again : (c : Compensation) (at : ℤ) (m : DelayMessage) (own : OwnState) (peer : PeerState) (id : ℕ) (now : Stamp) → HasSent c at own → IsNothing peer
    → IsTaken c at m (remote_two_in own peer id now) × ((v : ℤ) → delay_of (remote_two_in own peer id now).1 ≡ Some v → ⊥)
remote_two_again c at m Idle peer id now sent none = elim sent [ ]
remote_two_again c at m (Waiting stamp) peer id now sent none = (record { own = sent; peer = none; none = refl; delay = λ v is. no_delay v is }, λ v is. no_delay v is)
remote_two_again c at m Remote peer id now sent none = elim sent [ ]
remote_two_again c at m Done peer id now sent none = (record { own = tt; peer = none; none = refl; delay = λ v is. no_delay v is }, λ v is. no_delay v is)

pub responded : (c : Compensation) (at : ℤ) (m : DelayMessage) (own : OwnState) (peer : PeerState) → HasSent c at own → IsNothing peer → IsTaken c at m (response_in own peer m)
responded c at m Idle peer sent none = elim sent [ ]
responded c at m (Waiting stamp) peer sent none = record {
  own = tt;
  peer = none;
  none = refl;
  delay = λ v is. some_same (delay_between stamp.nanoseconds stamp.comp (value_of m) m.comp) v is ∙ ap (λ (s : Stamp). delay_between s.nanoseconds s.comp (value_of m) m.comp) sent;
}
responded c at m Remote peer sent none = elim sent [ ]
responded c at m Done peer sent none = record { own = tt; peer = none; none = refl; delay = λ v is. no_delay v is }

pub of_response : (e : Exchange) (m : DelayMessage) (s r : Stamp) → m.action ≡ 2 → after_message e m s r ≡ response_in e.own e.peer m
of_response e m s r is = rw is refl

pub of_remote : (e : Exchange) (m : DelayMessage) (s r : Stamp) → m.action ≡ 3 → after_message e m s r ≡ remote_in e.own e.peer m.id s
of_remote e m s r is = rw is refl

pub of_remote_two : (e : Exchange) (m : DelayMessage) (s r : Stamp) → m.action ≡ 4 → after_message e m s r ≡ remote_two_in e.own e.peer m.id s
of_remote_two e m s r is = rw is refl

-- what results from the other's replies
pub taken : (c yours : Compensation) (begun : Bool) (me you : Node) (h : Requested begun c yours me you) (m : DelayMessage) (s r : Stamp) → IsReply yours you.came h.request m
    → IsTaken c h.request.at m (after_message me.exchange m s r)
    × ((v : ℤ) → delay_of (after_message me.exchange m s r).1 ≡ Some v → IsResponse yours you.came h.request m)
taken c yours begun me you h m s r (inl (inl is)) =
    let back = sym (of_remote me.exchange m s r is) in
    let done = remote_again c h.request.at m me.exchange.own me.exchange.peer m.id s h.own h.peer in
    (subst (IsTaken c h.request.at m) back done.0, λ v known. absurd (done.1 v (ap (λ (p : Exchange × MeterStep). delay_of p.1) back ∙ known)))
taken c yours begun me you h m s r (inl (inr is)) =
    let back = sym (of_remote_two me.exchange m s r is) in
    let done = remote_two_again c h.request.at m me.exchange.own me.exchange.peer m.id s h.own h.peer in
    (subst (IsTaken c h.request.at m) back done.0, λ v known. absurd (done.1 v (ap (λ (p : Exchange × MeterStep). delay_of p.1) back ∙ known)))
taken c yours begun me you h m s r (inr is) =
    let action : m.action ≡ 2 = ap (λ (x : DelayMessage). x.action) is.is in
    (subst (IsTaken c h.request.at m) (sym (of_response me.exchange m s r action)) (responded c h.request.at m me.exchange.own me.exchange.peer h.own h.peer), λ v known. is)

abbrev pub still_asking : (c yours : Compensation) (begun : Bool) (me you : Node) (h : Requested begun c yours me you) (t : ℤ) (m : DelayMessage) (p : Exchange × MeterStep) → IsTaken c h.request.at m p → Requested begun c yours (arrived me t m p) you
still_asking c yours begun me you h t m p a =
    let same : me.sent ++ map (timed t) (sent_at_step p.1) ≡ me.sent = ap (λ (l : List DelayMessage). me.sent ++ map (timed t) l) a.none ∙ append-nil me.sent in
    record {
      begun_is = h.begun_is;
      request = h.request;
      late = h.late;
      alone = ap requests same ∙ h.alone;
      own = a.own;
      peer = a.peer;
      sent = subst (All (λ (x : Timed). (x.at ≡ h.request.at) × IsPart c h.request.at x.message)) (sym same) h.sent;
      your_own = h.your_own;
      your_peer = h.your_peer;
      replies = h.replies;
      silent = h.silent;
    }
