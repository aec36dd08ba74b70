-- The unit that did not send the request: what it receives, and what it answers.
use Rattle.std.proofs.Common.{◌≡◌, ℕ, ℤ, ◌≤ℤ◌, Bool, true, false, List, [], ◌∷◌, ◌++◌, Some, None, refl, sym, ap, ap₂, ◌∙◌, subst, inl, inr}
use Rattle.std.specs.Prelude.{Contains, All, ◌⊎◌, map}
use Rattle.std.proofs.lemmas.Bool.{cases_Bool}
use Rattle.std.proofs.lemmas.List.Elements.{All-append, All-cons, All-contains, All-nil, Contains-push}
use Rattle.delay_measure.specs.declared.message.DelayMessage.{DelayMessage}
use Rattle.delay_measure.specs.declared.stamps.Stamp.{Stamp}
use Rattle.delay_measure.specs.declared.states.Exchange.{Exchange}
use Rattle.delay_measure.specs.declared.states.OwnState.{OwnState}
use Rattle.delay_measure.specs.declared.states.OwnState.TheVariants.{Idle, Waiting, Remote, Done}
use Rattle.delay_measure.specs.declared.states.PeerState.{PeerState}
use Rattle.delay_measure.specs.declared.states.PeerState.TheVariants.{Nothing, Noted, Answered}
use Rattle.delay_measure.specs.declared.steps.MeterStep.{MeterStep}
use Rattle.delay_measure.specs.declared.steps.MeterStep.TheVariants.{Again, Noted as NotedNow, Repeat, Unknown}
use Rattle.delay_measure.specs.Payload.{value_of}
use Rattle.delay_measure.specs.Stamps.{sending_stamp, receiving_stamp, delay_between, stamped}
use Rattle.delay_measure.specs.Table.{after_message, announced_in, answer_in, exchange, follow_up_in, is_same, request_in, sent_at_step}
use Rattle.delay_measure.specs.declared.edge.Compensation.{Compensation}
use Rattle.delay_laws.specs.Nodes.{Node, Timed, delay_of, is_request, requests, timed}
use Rattle.delay_laws.proofs.Arithmetic.{value_stamped}
use Rattle.delay_laws.proofs.Lists.{no_requests, requests_append, the_request}
use Rattle.delay_laws.proofs.Phases.{IsNotWaiting, IsOfCopy, IsPart, IsReply, KnowsPeer, Requested, peer_stays, replies_stay}

-- a unit that receives a message, where this is the step
abbrev pub arrived : Node → ℤ → DelayMessage → Exchange × MeterStep → Node
arrived node t m p = record { exchange = p.0; sent = node.sent ++ map (timed t) (sent_at_step p.1); came = node.came ++ timed t m ∷ [] }

-- what a step of this unit leaves as it should be, and the delay that it makes known, from the request's stamp on
pub record IsAnswer (t : ℤ) (c : Compensation) (came : List Timed) (request : Timed) (from : Stamp) (p : Exchange × MeterStep) : Type 0 where
  pub own : IsNotWaiting p.0.own
  pub peer : KnowsPeer c came request p.0.peer
  pub replies : All (λ x. IsReply c came request x.message) (map (timed t) (sent_at_step p.1))
  pub silent : All (λ x. is_request x ≡ false) (map (timed t) (sent_at_step p.1))
  pub delay : (v : ℤ) → delay_of p.1 ≡ Some v → (stamp : Stamp) × IsOfCopy c came request stamp × (v ≡ delay_between from.nanoseconds from.comp stamp.nanoseconds stamp.comp)

-- the message carries the stamp
pub record HasStamp (m : DelayMessage) (from : Stamp) : Type 0 where
  pub value : value_of m ≡ from.nanoseconds
  pub comp : m.comp ≡ from.comp

has_stamp : (m : DelayMessage) (id action : ℕ) (from : Stamp) → m ≡ stamped id action from → HasStamp m from
has_stamp m id action from is = record { value = ap value_of is ∙ value_stamped id action from; comp = ap (λ (x : DelayMessage). x.comp) is }

none_some : (v : ℤ) → None ≡ Some v → ⊥
none_some v is = cc

pub some_same : (v w : ℤ) → Some v ≡ Some w → w ≡ v
some_same v w is = cc

pub no_delay : {A : Type 0} (v : ℤ) → None ≡ Some v → A
no_delay v is = absurd (none_some v is)

one_reply : (t : ℤ) (c : Compensation) (came : List Timed) (request : Timed) (id : ℕ) (stamp : Stamp) → IsOfCopy c came request stamp → All (λ x. IsReply c came request x.message) (timed t (stamped id 2 stamp) ∷ [])
one_reply t c came request id stamp copy =
    All-cons (λ (x : Timed). IsReply c came request x.message) (timed t (stamped id 2 stamp)) [] (inr (record { id = id; stamp = stamp; is = refl; copy = copy })) (All-nil (λ (x : Timed). IsReply c came request x.message))

one_silent : (t : ℤ) (id : ℕ) (stamp : Stamp) → All (λ x. is_request x ≡ false) (timed t (stamped id 2 stamp) ∷ [])
one_silent t id stamp = All-cons (λ (x : Timed). is_request x ≡ false) (timed t (stamped id 2 stamp)) [] refl (All-nil (λ (x : Timed). is_request x ≡ false))

-- ---- the steps

-- nothing is sent, and no delay is known
quiet : (t : ℤ) (c : Compensation) (came : List Timed) (request : Timed) (from : Stamp) (own : OwnState) (peer : PeerState) (step : MeterStep) → sent_at_step step ≡ [] → delay_of step ≡ None
    → IsNotWaiting own → KnowsPeer c came request peer → IsAnswer t c came request from (exchange own peer, step)
quiet t c came request from own peer step none unknown free knows = record {
  own = free;
  peer = knows;
  replies = subst (λ l. All (λ (x : Timed). IsReply c came request x.message) (map (timed t) l)) (sym none) (All-nil (λ (x : Timed). IsReply c came request x.message));
  silent = subst (λ l. All (λ (x : Timed). is_request x ≡ false) (map (timed t) l)) (sym none) (All-nil (λ (x : Timed). is_request x ≡ false));
  delay = λ v is. no_delay v (sym unknown ∙ is);
}

again : (t : ℤ) (c : Compensation) (came : List Timed) (request : Timed) (from : Stamp) (seen : DelayMessage) (own : OwnState) (stamp : Stamp) → IsNotWaiting own → IsOfCopy c came request stamp
    → IsAnswer t c came request from (exchange own (Answered seen stamp), Again (stamped seen.id 2 stamp))
again t c came request from seen own stamp free copy = record {
  own = free;
  peer = copy;
  replies = one_reply t c came request seen.id stamp copy;
  silent = one_silent t seen.id stamp;
  delay = λ v is. no_delay v is;
}

answered : (t : ℤ) (c : Compensation) (came : List Timed) (request : Timed) (from : Stamp) (m : DelayMessage) → HasStamp m from → (own : OwnState) (stamp : Stamp) → IsNotWaiting own → IsOfCopy c came request stamp
    → IsAnswer t c came request from (answer_in own m stamp)
answered t c came request from m has Idle stamp free copy = record {
  own = tt;
  peer = copy;
  replies = one_reply t c came request m.id stamp copy;
  silent = one_silent t m.id stamp;
  delay = λ v is. no_delay v is;
}
answered t c came request from m has (Waiting sent) stamp free copy = elim free [ ]
answered t c came request from m has Remote stamp free copy = record {
  own = tt;
  peer = copy;
  replies = one_reply t c came request m.id stamp copy;
  silent = one_silent t m.id stamp;
  delay = λ v is. (stamp, copy, some_same (delay_between (value_of m) m.comp stamp.nanoseconds stamp.comp) v is ∙ ap₂ (λ (n : ℕ) (k : ℤ). delay_between n k stamp.nanoseconds stamp.comp) has.value has.comp);
}
answered t c came request from m has Done stamp free copy = record {
  own = tt;
  peer = copy;
  replies = one_reply t c came request m.id stamp copy;
  silent = one_silent t m.id stamp;
  delay = λ v is. no_delay v is;
}

requested : (t : ℤ) (c : Compensation) (came : List Timed) (request : Timed) (from : Stamp) (m : DelayMessage) → HasStamp m from → (peer : PeerState) (own : OwnState) (stamp : Stamp) → IsNotWaiting own → KnowsPeer c came request peer → IsOfCopy c came request stamp
    → IsAnswer t c came request from (request_in peer own m stamp)
requested t c came request from m has Nothing own stamp free knows copy = answered t c came request from m has own stamp free copy
requested t c came request from m has (Noted first) own stamp free knows copy = answered t c came request from m has own stamp free copy
requested t c came request from m has (Answered seen first) own stamp free knows copy = elim (cases_Bool (is_same seen m)) [
  | inl is ↦ let kept = again t c came request from seen own first free knows in rw is kept
  | inr other ↦ let new = answered t c came request from m has own stamp free copy in rw other new
]

announced : (t : ℤ) (c : Compensation) (came : List Timed) (request : Timed) (from : Stamp) (peer : PeerState) (own : OwnState) (stamp : Stamp) → IsNotWaiting own → KnowsPeer c came request peer → IsOfCopy c came request stamp
    → IsAnswer t c came request from (announced_in peer own stamp)
announced t c came request from Nothing own stamp free knows copy = quiet t c came request from own (Noted stamp) NotedNow refl refl free copy
announced t c came request from (Noted first) own stamp free knows copy = quiet t c came request from own (Noted first) Repeat refl refl free knows
announced t c came request from (Answered seen first) own stamp free knows copy = quiet t c came request from own (Noted stamp) NotedNow refl refl free copy

followed : (t : ℤ) (c : Compensation) (came : List Timed) (request : Timed) (from : Stamp) (m : DelayMessage) → HasStamp m from → (peer : PeerState) (own : OwnState) → IsNotWaiting own → KnowsPeer c came request peer
    → IsAnswer t c came request from (follow_up_in peer own m)
followed t c came request from m has Nothing own free knows = quiet t c came request from own Nothing Unknown refl refl free knows
followed t c came request from m has (Noted first) own free knows = answered t c came request from m has own first free knows
followed t c came request from m has (Answered seen first) own free knows = elim (cases_Bool (is_same seen m)) [
  | inl is ↦ let kept = again t c came request from seen own first free knows in rw is kept
  | inr other ↦ let none = quiet t c came request from own (Answered seen first) Unknown refl refl free knows in rw other none
]

-- ---- by the action

pub of_request : (e : Exchange) (m : DelayMessage) (s r : Stamp) → m.action ≡ 0 → after_message e m s r ≡ request_in e.peer e.own m r
of_request e m s r is = rw is refl

pub of_announced : (e : Exchange) (m : DelayMessage) (s r : Stamp) → m.action ≡ 1 → after_message e m s r ≡ announced_in e.peer e.own r
of_announced e m s r is = rw is refl

pub of_follow_up : (e : Exchange) (m : DelayMessage) (s r : Stamp) → m.action ≡ 5 → after_message e m s r ≡ follow_up_in e.peer e.own m
of_follow_up e m s r is = rw is refl

-- ---- what results from the request

is_a_request : (x : Timed) → (x.message.action ≡ 0) ⊎ (x.message.action ≡ 1) → is_request x ≡ true
is_a_request x (inl is) = rw is refl
is_a_request x (inr is) = rw is refl

-- a request that is received now is a copy
copied : (c mine : Compensation) (begun : Bool) (you me : Node) (h : Requested begun mine c you me) (t at : ℤ) (m : DelayMessage) → Contains you.sent (timed at m) → at ≤ℤ t → (m.action ≡ 0) ⊎ (m.action ≡ 1)
    → IsOfCopy c (me.came ++ timed t m ∷ []) h.request (receiving_stamp t c.receiving)
copied c mine begun you me h t at m among after is =
    let the : timed at m ≡ h.request = the_request you.sent (timed at m) h.request h.alone among (is_a_request (timed at m) is) in
    record {
      copy = timed t m;
      among = Contains-push me.came (timed t m);
      same = ap (λ (x : Timed). x.message) the;
      later = subst (λ (x : Timed). x.at ≤ℤ t) the after;
      is = refl;
    }

pub answer_is : (c mine : Compensation) (begun : Bool) (you me : Node) (h : Requested begun mine c you me) (t at : ℤ) (m : DelayMessage) → Contains you.sent (timed at m) → at ≤ℤ t
    → IsAnswer t c (me.came ++ timed t m ∷ []) h.request (sending_stamp h.request.at mine.sending) (after_message me.exchange m (sending_stamp t c.sending) (receiving_stamp t c.receiving))
answer_is c mine begun you me h t at m among after = by (All-contains (λ (x : Timed). (x.at ≡ h.request.at) × IsPart mine h.request.at x.message) you.sent (timed at m) h.sent among).1
  where
    knows : KnowsPeer c (me.came ++ (timed t m ∷ [])) h.request me.exchange.peer
    knows = peer_stays c me.came (timed t m ∷ []) h.request me.exchange.peer h.your_peer

    by : IsPart mine h.request.at m → IsAnswer t c (me.came ++ timed t m ∷ []) h.request (sending_stamp h.request.at mine.sending) (after_message me.exchange m (sending_stamp t c.sending) (receiving_stamp t c.receiving))
    by (inl p) =
        let action : m.action ≡ 0 = ap (λ (x : DelayMessage). x.action) p.1 in
        subst (IsAnswer t c (me.came ++ timed t m ∷ []) h.request (sending_stamp h.request.at mine.sending)) (sym (of_request me.exchange m (sending_stamp t c.sending) (receiving_stamp t c.receiving) action))
        (requested t c (me.came ++ timed t m ∷ []) h.request (sending_stamp h.request.at mine.sending) m (has_stamp m p.0 0 (sending_stamp h.request.at mine.sending) p.1) me.exchange.peer me.exchange.own (receiving_stamp t c.receiving) h.your_own knows (copied c mine begun you me h t at m among after (inl action)))
    by (inr (inl p)) =
        let action : m.action ≡ 1 = ap (λ (x : DelayMessage). x.action) p.1 in
        subst (IsAnswer t c (me.came ++ timed t m ∷ []) h.request (sending_stamp h.request.at mine.sending)) (sym (of_announced me.exchange m (sending_stamp t c.sending) (receiving_stamp t c.receiving) action))
        (announced t c (me.came ++ timed t m ∷ []) h.request (sending_stamp h.request.at mine.sending) me.exchange.peer me.exchange.own (receiving_stamp t c.receiving) h.your_own knows (copied c mine begun you me h t at m among after (inr action)))
    by (inr (inr p)) =
        let action : m.action ≡ 5 = ap (λ (x : DelayMessage). x.action) p.1 in
        subst (IsAnswer t c (me.came ++ timed t m ∷ []) h.request (sending_stamp h.request.at mine.sending)) (sym (of_follow_up me.exchange m (sending_stamp t c.sending) (receiving_stamp t c.receiving) action))
        (followed t c (me.came ++ timed t m ∷ []) h.request (sending_stamp h.request.at mine.sending) m (has_stamp m p.0 5 (sending_stamp h.request.at mine.sending) p.1) me.exchange.peer me.exchange.own h.your_own knows)

abbrev pub still_requested : (c mine : Compensation) (begun : Bool) (you me : Node) (h : Requested begun mine c you me) (t : ℤ) (m : DelayMessage) (p : Exchange × MeterStep) → IsAnswer t c (me.came ++ timed t m ∷ []) h.request (sending_stamp h.request.at mine.sending) p → Requested begun mine c you (arrived me t m p)
still_requested c mine begun you me h t m p a = record {
  begun_is = h.begun_is;
  request = h.request;
  late = h.late;
  alone = h.alone;
  own = h.own;
  peer = h.peer;
  sent = h.sent;
  your_own = a.own;
  your_peer = a.peer;
  replies = All-append (λ (x : Timed). IsReply c (me.came ++ timed t m ∷ []) h.request x.message) me.sent (map (timed t) (sent_at_step p.1)) (replies_stay c me.came (timed t m ∷ []) h.request me.sent h.replies) a.replies;
  silent = requests_append me.sent (map (timed t) (sent_at_step p.1)) ∙ ap (λ (l : List Timed). l ++ requests (map (timed t) (sent_at_step p.1))) h.silent ∙ no_requests (map (timed t) (sent_at_step p.1)) a.silent;
}
