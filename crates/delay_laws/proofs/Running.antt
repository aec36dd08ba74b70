-- Both units, step by step.
use Rattle.std.proofs.Common.{◌≡◌, ℕ, ℤ, pos, ◌≤ℤ◌, ◌*ℤ◌, Bool, true, false, List, [], ◌∷◌, Some, refl, sym, ap, ap₂, ◌∙◌, subst, inl, inr}
use Rattle.std.specs.Prelude.{Contains, All, ◌⊎◌}
use Rattle.std.proofs.lemmas.Bool.{both_ways}
use Rattle.std.proofs.lemmas.List.Elements.{All-cons, All-contains, All-nil, All-weaker}
use Rattle.delay_measure.specs.declared.message.DelayMessage.{DelayMessage}
use Rattle.delay_measure.specs.declared.stamps.Stamp.{Stamp}
use Rattle.delay_measure.specs.declared.states.Exchange.{Exchange}
use Rattle.delay_measure.specs.declared.states.OwnState.TheVariants.{Waiting}
use Rattle.delay_measure.specs.declared.states.PeerState.TheVariants.{Nothing}
use Rattle.delay_measure.specs.declared.steps.Kind.{Kind}
use Rattle.delay_measure.specs.declared.steps.Kind.TheVariants.{One, Two, RemoteOne, RemoteTwo}
use Rattle.delay_measure.specs.declared.steps.MeterStep.{MeterStep}
use Rattle.delay_measure.specs.declared.steps.MeterStep.TheVariants.{Send, SendTwo}
use Rattle.delay_measure.specs.After.{begins}
use Rattle.delay_measure.specs.Payload.{value_of}
use Rattle.delay_measure.specs.Stamps.{sending_ns, receiving_ns, sending_stamp, receiving_stamp, delay_between, stamped, blank}
use Rattle.delay_measure.specs.Table.{after_message, exchange, unused}
use Rattle.delay_measure.specs.declared.edge.Compensation.{Compensation}
use Rattle.delay_laws.specs.Nodes.{Node, Timed, delay_of, fresh, is_request, requests, timed, told_node}
use Rattle.delay_measure.specs.Kept.{IsInRange}
use Rattle.delay_laws.specs.Delays.{HasDelay, IsNear}
use Rattle.delay_laws.proofs.Arithmetic.{exact_is, near_is, value_stamped}
use Rattle.delay_laws.proofs.Lists.{no_requests, none_in}
use Rattle.delay_laws.proofs.Answering.{answer_is, arrived, no_delay, still_requested}
use Rattle.delay_laws.proofs.Asking.{of_remote, of_remote_two, still_asking, taken}
use Rattle.delay_laws.proofs.Phases.{Asked, IsOfCopy, IsNotWaiting, IsPart, IsRemote, IsReply, KnowsPeer, Phase, Requested}
use Rattle.fh_base.specs.declared.nanoseconds.TheConstants.{NANOSECOND}

-- ---- a delay between the stamps of the request and of a copy

has_delay : (c1 c2 : Compensation) (asking answering : Node) (request : Timed) → IsInRange c1 → IsInRange c2 → pos 1536000000 ≤ℤ request.at → requests asking.sent ≡ request ∷ [] → requests answering.sent ≡ []
    → (stamp : Stamp) → IsOfCopy c2 answering.came request stamp → (v : ℤ) → v ≡ delay_between (sending_ns request.at c1.sending) c1.sending stamp.nanoseconds stamp.comp → HasDelay c1 c2 asking answering v
has_delay c1 c2 asking answering request is1 is2 late alone silent stamp copy v is =
    let value : v ≡ delay_between (sending_ns request.at c1.sending) c1.sending (receiving_ns copy.copy.at c2.receiving) c2.receiving = is ∙ ap (λ (s : Stamp). delay_between (sending_ns request.at c1.sending) c1.sending s.nanoseconds s.comp) copy.is in
    record {
      request = request;
      alone = alone;
      silent = silent;
      copy = copy.copy;
      came = copy.among;
      same = copy.same;
      later = copy.later;
      value = value;
      near = subst (λ (w : ℤ). IsNear request.at copy.copy.at w) (sym value) (near_is request.at copy.copy.at c1.sending c2.receiving late copy.later is1.sending_low is1.sending_high is2.receiving_low);
      exact = λ wt wu wc wd. ap (λ (w : ℤ). pos NANOSECOND *ℤ w) value ∙ exact_is request.at copy.copy.at c1.sending c2.receiving late is1.sending_high wt wu wc wd;
    }

-- ---- a begin

-- nothing was done by the other unit
abbrev pub Begins : Compensation → Compensation → ℤ → ℕ → Kind → Type 0
Begins mine yours t id kind = Phase true mine yours (told_node mine fresh (begins t id kind)) fresh

begun_with : (mine yours : Compensation) (t : ℤ) (id : ℕ) (kind : Kind) → pos 1536000000 ≤ℤ t → Begins mine yours t id kind
begun_with mine yours t id One late = inr (inr (inr (inl (record {
  begun_is = refl;
  request = timed t (stamped id 0 (sending_stamp t mine.sending));
  late = late;
  alone = refl;
  own = refl;
  peer = tt;
  sent = All-cons (λ (x : Timed). (x.at ≡ t) × IsPart mine t x.message) (timed t (stamped id 0 (sending_stamp t mine.sending))) [] (refl, inl (id, refl)) (All-nil (λ (x : Timed). (x.at ≡ t) × IsPart mine t x.message));
  your_own = tt;
  your_peer = tt;
  replies = All-nil (λ (x : Timed). IsReply yours [] (timed t (stamped id 0 (sending_stamp t mine.sending))) x.message);
  silent = refl;
}))))
begun_with mine yours t id Two late = inr (inr (inr (inl (record {
  begun_is = refl;
  request = timed t (blank id 1);
  late = late;
  alone = refl;
  own = refl;
  peer = tt;
  sent = All-cons (λ (x : Timed). (x.at ≡ t) × IsPart mine t x.message) (timed t (blank id 1)) (timed t (stamped id 5 (sending_stamp t mine.sending)) ∷ []) (refl, inr (inl (id, refl)))
      (All-cons (λ (x : Timed). (x.at ≡ t) × IsPart mine t x.message) (timed t (stamped id 5 (sending_stamp t mine.sending))) [] (refl, inr (inr (id, refl))) (All-nil (λ (x : Timed). (x.at ≡ t) × IsPart mine t x.message)));
  your_own = tt;
  your_peer = tt;
  replies = All-nil (λ (x : Timed). IsReply yours [] (timed t (blank id 1)) x.message);
  silent = refl;
}))))
begun_with mine yours t id RemoteOne late = inr (inl (record {
  begun_is = refl;
  exchange_is = refl;
  sent = All-cons (λ (x : Timed). IsRemote x.message) (timed t (blank id 3)) [] (inl refl) (All-nil (λ (x : Timed). IsRemote x.message));
  yours = refl;
}))
begun_with mine yours t id RemoteTwo late = inr (inl (record {
  begun_is = refl;
  exchange_is = refl;
  sent = All-cons (λ (x : Timed). IsRemote x.message) (timed t (blank id 4)) [] (inr refl) (All-nil (λ (x : Timed). IsRemote x.message));
  yours = refl;
}))

pub begin_step : (mine yours : Compensation) (begun : Bool) (me you : Node) (t : ℤ) (id : ℕ) (kind : Kind) → pos 1536000000 ≤ℤ t → begun ≡ false → Phase begun mine yours me you
    → Phase true mine yours (told_node mine me (begins t id kind)) you
begin_step mine yours begun me you t id kind late not_yet (inl h) =
    let first = subst (λ (n : Node). Phase true mine yours (told_node mine n (begins t id kind)) fresh) (sym h.mine) (begun_with mine yours t id kind late) in
    subst (λ (n : Node). Phase true mine yours (told_node mine me (begins t id kind)) n) (sym h.yours) first
begin_step mine yours begun me you t id kind late not_yet (inr (inl h)) = absurd (both_ways begun not_yet h.begun_is)
begin_step mine yours begun me you t id kind late not_yet (inr (inr (inl h))) = absurd (both_ways begun not_yet h.begun_is)
begin_step mine yours begun me you t id kind late not_yet (inr (inr (inr (inl h)))) = absurd (both_ways begun not_yet h.begun_is)
begin_step mine yours begun me you t id kind late not_yet (inr (inr (inr (inr h)))) = absurd (both_ways begun not_yet h.begun_is)

-- ---- a message that is received

abbrev pub Delayed : Compensation → Compensation → Node → Node → ℤ → Type 0
Delayed mine yours me you v = HasDelay mine yours me you v ⊎ HasDelay yours mine you me v

-- what holds after a step of the first unit
abbrev pub Behind : Bool → Compensation → Compensation → ℤ → DelayMessage → Node → Node → Exchange × MeterStep → Type 0
Behind begun mine yours t m me you p = Phase begun mine yours (arrived me t m p) you × ((v : ℤ) → delay_of p.1 ≡ Some v → Delayed mine yours (arrived me t m p) you v)

pub remote_not : (x : Timed) → IsRemote x.message → is_request x ≡ false
remote_not x (inl is) = rw is refl
remote_not x (inr is) = rw is refl

-- a request that was asked for is sent
asked_for : (mine yours : Compensation) (begun : Bool) (you : Node) (t : ℤ) (m : DelayMessage) (request : Timed) (sent : List Timed) → pos 1536000000 ≤ℤ t → Asked begun you fresh
    → request.at ≡ t → requests sent ≡ request ∷ [] → All (λ x. (x.at ≡ t) × IsPart mine t x.message) sent
    → Requested begun mine yours (record { exchange = exchange (Waiting (sending_stamp t mine.sending)) Nothing; sent = sent; came = timed t m ∷ [] }) you
asked_for mine yours begun you t m request sent late h at alone parts = record {
  begun_is = h.begun_is;
  request = request;
  late = subst (λ (u : ℤ). pos 1536000000 ≤ℤ u) (sym at) late;
  alone = alone;
  own = ap (λ (u : ℤ). sending_stamp u mine.sending) (sym at);
  peer = tt;
  sent = subst (λ (u : ℤ). All (λ (x : Timed). (x.at ≡ u) × IsPart mine u x.message) sent) (sym at) parts;
  your_own = subst (λ (e : Exchange). IsNotWaiting e.own) (sym h.exchange_is) tt;
  your_peer = subst (λ (e : Exchange). KnowsPeer yours you.came request e.peer) (sym h.exchange_is) tt;
  replies = All-weaker (λ (x : Timed). IsRemote x.message) (λ (x : Timed). IsReply yours you.came request x.message) (λ x is. inl is) you.sent h.sent;
  silent = no_requests you.sent (All-weaker (λ (x : Timed). IsRemote x.message) (λ (x : Timed). is_request x ≡ false) remote_not you.sent h.sent);
}

asked_one : (mine yours : Compensation) (begun : Bool) (you : Node) (t : ℤ) (m : DelayMessage) → pos 1536000000 ≤ℤ t → Asked begun you fresh
    → Behind begun mine yours t m fresh you (exchange (Waiting (sending_stamp t mine.sending)) Nothing, Send (stamped m.id 0 (sending_stamp t mine.sending)))
asked_one mine yours begun you t m late h =
    let x : Timed = timed t (stamped m.id 0 (sending_stamp t mine.sending)) in (
      inr (inr (inr (inl (asked_for mine yours begun you t m x (x ∷ []) late h refl refl
          (All-cons (λ (y : Timed). (y.at ≡ t) × IsPart mine t y.message) x [] (refl, inl (m.id, refl)) (All-nil (λ (y : Timed). (y.at ≡ t) × IsPart mine t y.message))))))),
      λ v is. no_delay v is,
    )

asked_two : (mine yours : Compensation) (begun : Bool) (you : Node) (t : ℤ) (m : DelayMessage) → pos 1536000000 ≤ℤ t → Asked begun you fresh
    → Behind begun mine yours t m fresh you (exchange (Waiting (sending_stamp t mine.sending)) Nothing, SendTwo (blank m.id 1) (stamped m.id 5 (sending_stamp t mine.sending)))
asked_two mine yours begun you t m late h =
    let x : Timed = timed t (blank m.id 1) in
    let y : Timed = timed t (stamped m.id 5 (sending_stamp t mine.sending)) in (
      inr (inr (inr (inl (asked_for mine yours begun you t m x (x ∷ y ∷ []) late h refl refl
          (All-cons (λ (z : Timed). (z.at ≡ t) × IsPart mine t z.message) x (y ∷ []) (refl, inr (inl (m.id, refl)))
          (All-cons (λ (z : Timed). (z.at ≡ t) × IsPart mine t z.message) y [] (refl, inr (inr (m.id, refl))) (All-nil (λ (z : Timed). (z.at ≡ t) × IsPart mine t z.message)))))))),
      λ v is. no_delay v is,
    )

asked_step : (mine yours : Compensation) (begun : Bool) (you : Node) (t : ℤ) (m : DelayMessage) (r : Stamp) → pos 1536000000 ≤ℤ t → Asked begun you fresh → IsRemote m
    → Behind begun mine yours t m fresh you (after_message unused m (sending_stamp t mine.sending) r)
asked_step mine yours begun you t m r late h (inl is) = subst (Behind begun mine yours t m fresh you) (sym (of_remote unused m (sending_stamp t mine.sending) r is)) (asked_one mine yours begun you t m late h)
asked_step mine yours begun you t m r late h (inr is) = subst (Behind begun mine yours t m fresh you) (sym (of_remote_two unused m (sending_stamp t mine.sending) r is)) (asked_two mine yours begun you t m late h)

nothing_from : {A : Type 0} (you : Node) (x : Timed) → you ≡ fresh → Contains you.sent x → A
nothing_from you x is among = absurd (none_in x (subst (λ (n : Node). Contains n.sent x) is among))

pub comes_step : (mine yours : Compensation) (begun : Bool) (me you : Node) (t at : ℤ) (m : DelayMessage) → IsInRange mine → IsInRange yours → pos 1536000000 ≤ℤ t → Contains you.sent (timed at m) → at ≤ℤ t
    → Phase begun mine yours me you → Behind begun mine yours t m me you (after_message me.exchange m (sending_stamp t mine.sending) (receiving_stamp t mine.receiving))
comes_step mine yours begun me you t at m is_mine is_yours late among after (inl h) = nothing_from you (timed at m) h.yours among
comes_step mine yours begun me you t at m is_mine is_yours late among after (inr (inl h)) = nothing_from you (timed at m) h.yours among
comes_step mine yours begun me you t at m is_mine is_yours late among after (inr (inr (inl h))) =
    let remote : IsRemote m = All-contains (λ (x : Timed). IsRemote x.message) you.sent (timed at m) h.sent among in
    let h' : Asked begun you fresh = subst (λ (n : Node). Asked begun you n) h.yours h in
    subst (λ (n : Node). Behind begun mine yours t m n you (after_message n.exchange m (sending_stamp t mine.sending) (receiving_stamp t mine.receiving))) (sym h.yours)
    (asked_step mine yours begun you t m (receiving_stamp t mine.receiving) late h' remote)
comes_step mine yours begun me you t at m is_mine is_yours late among after (inr (inr (inr (inl h)))) =
    let s : Stamp = sending_stamp t mine.sending in
    let r : Stamp = receiving_stamp t mine.receiving in
    let reply : IsReply yours you.came h.request m = All-contains (λ (x : Timed). IsReply yours you.came h.request x.message) you.sent (timed at m) h.replies among in
    let a = taken mine yours begun me you h m s r reply in
    let p : Exchange × MeterStep = after_message me.exchange m s r in
    let now = still_asking mine yours begun me you h t m p a.0 in (
      inr (inr (inr (inl now))),
      λ v known.
          let response = a.1 v known in
          let value = ap value_of response.is ∙ value_stamped response.id 2 response.stamp in
          let comp = ap (λ (x : DelayMessage). x.comp) response.is in
          inl (has_delay mine yours (arrived me t m p) you h.request is_mine is_yours h.late now.alone now.silent response.stamp response.copy v
          (a.0.delay v known ∙ ap₂ (λ (n : ℕ) (k : ℤ). delay_between (sending_ns h.request.at mine.sending) mine.sending n k) value comp)),
    )
comes_step mine yours begun me you t at m is_mine is_yours late among after (inr (inr (inr (inr h)))) =
    let s : Stamp = sending_stamp t mine.sending in
    let r : Stamp = receiving_stamp t mine.receiving in
    let a = answer_is mine yours begun you me h t at m among after in
    let p : Exchange × MeterStep = after_message me.exchange m s r in
    let now = still_requested mine yours begun you me h t m p a in (
      inr (inr (inr (inr now))),
      λ v known.
          let d = a.delay v known in
          inr (has_delay yours mine you (arrived me t m p) h.request is_yours is_mine h.late now.alone now.silent d.0 d.1 v d.2),
    )
