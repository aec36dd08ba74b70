-- What a unit receives is a copy of a frame that was sent to it.
use Rattle.std.proofs.Common.{◌≡◌, ℕ, zero, suc, ℤ, pos, ◌==◌, ◌+ℤ◌, true, List, [], ◌∷◌, ◌++◌, length, refl, sym, ap, ◌∙◌, subst, arith, inl, inr}
use Rattle.std.specs.Prelude.{All, Contains, map}
use Rattle.std.specs.Ordering.{int_eq}
use Rattle.std.proofs.lemmas.Bool.{cases_Bool, eqb-true}
use Rattle.std.proofs.lemmas.Bool.Decides.{Decides-int_eq}
use Rattle.std.proofs.lemmas.List.Elements.{All-append, All-cons, All-contains, All-head, All-map, All-nil, All-tail, All-weaker, Contains-append_left}
use Rattle.air_source.specs.declared.events.Side.{Side}
use Rattle.air_source.specs.declared.events.Side.TheVariants.{Ru, Du}
use Rattle.delay_measure.specs.declared.message.DelayMessage.{DelayMessage}
use Rattle.delay_measure.specs.After.{Told, begins, comes, forgets, id_of}
use Rattle.delay_measure.specs.declared.edge.Compensation.{Compensation}
use Rattle.delay_laws.specs.Nodes.{Heard, Measurement, Node, Timed, came_with, fresh, is_request, measured, node_of, sent_then, time_of, timed, told_node, with_node}
use Rattle.delay_laws.specs.Ticks.{Begin, Flight, Hearing, IsPure, Setting, State, after_tick, arriving, begin_heard, came_heard, copies_at, due, flight, hearing, landing, launched, state, told_all, told_one}
use Rattle.delay_laws.specs.Laws.{TickDelaysAreOfRequests}
use Rattle.delay_laws.proofs.Lists.{the_first, the_request}
use Rattle.delay_laws.proofs.Sending.{sent_named}
use Rattle.delay_laws.proofs.Standing.{tick_has}
use Rattle.delay_laws.proofs.Ticking.{IsKnown, WasSent, state_ready}
use Rattle.air_source.specs.Units.{other}

-- a message that is received at this time is a copy of one of these frames
pub record IsCopyOf (sent : List Flight) (t : ℤ) (m : DelayMessage) : Type 0 where
  pub frame : Flight
  pub among : Contains sent frame
  pub is : frame.message ≡ m
  pub way : ℤ
  pub of : Contains frame.delays way
  pub took : t ≡ frame.at +ℤ way

abbrev pub IsCarried : (Side → List Flight) → Side → Told → Type 0
IsCarried sent side (begins t id kind) = Unit {0}
IsCarried sent side (comes t m) = IsCopyOf (sent side) t m
IsCarried sent side (forgets id) = Unit {0}

abbrev pub WasCarried : (Side → List Flight) → Heard → Type 0
WasCarried sent one = IsCarried sent one.side one.told

-- ---- at a tick

behind : {A : Type 0} (y : A) (xs : List A) (x : A) → Contains xs x → Contains (y ∷ xs) x
behind y xs x h = (suc h.0, (let lt = h.1 in omega arith), h.2)

wider : (f : Flight) (fs : List Flight) (t : ℤ) (m : DelayMessage) → IsCopyOf fs t m → IsCopyOf (f ∷ fs) t m
wider f fs t m h = record { frame = h.frame; among = behind f fs h.frame h.among; is = h.is; way = h.way; of = h.of; took = h.took }

-- of the copies of a frame, these and those before
copies_of : (f : Flight) (fs : List Flight) (t : ℤ) (ds : List ℤ) → ((d : ℤ) → Contains ds d → Contains f.delays d) → All (IsCopyOf (f ∷ fs) t) (copies_at ds f.at f.message t)
copies_of f fs t [] of = All-nil (IsCopyOf (f ∷ fs) t)
copies_of f fs t (d ∷ ds) of =
    let rest = copies_of f fs t ds (λ x among. of x (behind d ds x among)) in
    elim (cases_Bool (int_eq (f.at +ℤ d) t)) [
      | inl here ↦
          let first : IsCopyOf (f ∷ fs) t f.message = record { frame = f; among = (0, omega arith, refl); is = refl; way = d; of = of d (0, omega arith, refl); took = sym ((Decides-int_eq (f.at +ℤ d) t).0 here) } in
          let both = All-cons (IsCopyOf (f ∷ fs) t) f.message (copies_at ds f.at f.message t) first rest in
          rw here both
      | inr there ↦ rw there rest
    ]

landing_of : (fs : List Flight) (t : ℤ) → All (IsCopyOf fs t) (landing fs t)
landing_of [] t = All-nil (IsCopyOf [] t)
landing_of (f ∷ fs) t =
    All-append (IsCopyOf (f ∷ fs) t) (copies_at f.delays f.at f.message t) (landing fs t) (copies_of f fs t f.delays (λ d among. among))
    (All-weaker (IsCopyOf fs t) (IsCopyOf (f ∷ fs) t) (wider f fs t) (landing fs t) (landing_of fs t))

heard_all : (P : Heard → Type 0) (w : Setting) (h : Hearing) (more : List Heard) → All P h.heard → All P more → All P (told_all w h more).heard
heard_all P w h [] all more = all
heard_all P w h (one ∷ rest) all more = heard_all P w (told_one w h one) rest (All-cons P one h.heard (All-head P one rest more) all) (All-tail P one rest more)

arriving_all : (w : Setting) → IsPure w → (s : State) (side : Side) (t : ℤ) → All (WasCarried s.sent) (arriving w s side t)
arriving_all w pure s side t =
    All-map (WasCarried s.sent) (came_heard side t) (landing (s.sent side) t ++ w.others side t)
    (All-append (IsCopyOf (s.sent side) t) (landing (s.sent side) t) (w.others side t) (landing_of (s.sent side) t) (subst (All (IsCopyOf (s.sent side) t)) (sym (pure.alone side t)) (All-nil (IsCopyOf (s.sent side) t))))

begins_all : (sent : Side → List Flight) (bs : List Begin) → All (λ b. WasCarried sent (begin_heard b)) bs
begins_all sent bs k d lt = tt

hearing_carried : (w : Setting) → IsPure w → (t : ℤ) (s : State) → All (WasCarried s.sent) s.heard → All (WasCarried s.sent) (hearing w t s).heard
unfolding hearing
hearing_carried w pure t s before =
    let start : Hearing = record { heard = s.heard; made = λ side. [] } in
    let begun : Hearing = told_all w start (map begin_heard (due t w.begins)) in
    let first = heard_all (WasCarried s.sent) w start (map begin_heard (due t w.begins)) before (All-map (WasCarried s.sent) begin_heard (due t w.begins) (begins_all s.sent (due t w.begins))) in
    heard_all (WasCarried s.sent) w (told_all w begun (arriving w s Ru t)) (arriving w s Du t) (heard_all (WasCarried s.sent) w begun (arriving w s Ru t) first (arriving_all w pure s Ru t)) (arriving_all w pure s Du t)

launched_has : (delays : ℕ → List ℤ) (t : ℤ) (sent : List Flight) (ms : List DelayMessage) (f : Flight) → Contains sent f → Contains (launched delays t sent ms) f
launched_has delays t sent [] f among = among
launched_has delays t sent (m ∷ ms) f among = launched_has delays t (sent ++ flight delays t (length sent) m ∷ []) ms f (Contains-append_left sent (flight delays t (length sent) m ∷ []) f among)

still_copy : (sent more : List Flight) → ((f : Flight) → Contains sent f → Contains more f) → (t : ℤ) (m : DelayMessage) → IsCopyOf sent t m → IsCopyOf more t m
still_copy sent more has t m h = record { frame = h.frame; among = has h.frame h.among; is = h.is; way = h.way; of = h.of; took = h.took }

still_carried : (sent more : Side → List Flight) → ((side : Side) (f : Flight) → Contains (sent side) f → Contains (more side) f) → (side : Side) (told : Told) → IsCarried sent side told → IsCarried more side told
still_carried sent more has side (begins t id kind) h = tt
still_carried sent more has side (comes t m) h = still_copy (sent side) (more side) (has side) t m h
still_carried sent more has side (forgets id) h = tt

all_carried : (w : Setting) → IsPure w → (first : ℤ) (n : ℕ) → All (WasCarried (state w first n).sent) (state w first n).heard
unfolding state after_tick
all_carried w pure first zero = All-nil (WasCarried (λ side. []))
all_carried w pure first (suc n) =
    let t : ℤ = first +ℤ pos n in
    let s : State = state w first n in
    All-weaker (WasCarried s.sent) (WasCarried (after_tick w t s).sent)
    (λ one h. still_carried s.sent (after_tick w t s).sent (λ side f among. launched_has (w.delays side) t (s.sent side) ((hearing w t s).made (other side)) f among) one.side one.told h)
    (hearing w t s).heard (hearing_carried w pure t s (all_carried w pure first n))

-- ---- what a unit's part holds

-- each message that it sent names the id, and each that was received is a copy
pub record IsCarriedNode (sent : List Flight) (id : ℕ) (n : Node) : Type 0 where
  pub named : All (λ x. x.message.id ≡ id) n.sent
  pub carried : All (λ x. IsCopyOf sent x.at x.message) n.came

came_carried : (sent : Side → List Flight) (side : Side) (told : Told) → IsCarried sent side told → All (λ x. IsCopyOf (sent side) x.at x.message) (came_with told)
came_carried sent side (begins t id kind) h = All-nil (λ (x : Timed). IsCopyOf (sent side) x.at x.message)
came_carried sent side (comes t m) h = All-cons (λ (x : Timed). IsCopyOf (sent side) x.at x.message) (timed t m) [] h (All-nil (λ (x : Timed). IsCopyOf (sent side) x.at x.message))
came_carried sent side (forgets id) h = All-nil (λ (x : Timed). IsCopyOf (sent side) x.at x.message)

node_carried : (c : Compensation) (sent : Side → List Flight) (side : Side) (n : Node) (told : Told) → IsCarriedNode (sent side) (id_of told) n → IsCarried sent side told → IsCarriedNode (sent side) (id_of told) (told_node c n told)
node_carried c sent side n told before h = record {
  named = All-append (λ (x : Timed). x.message.id ≡ id_of told) n.sent (map (timed (time_of told)) (sent_then c n.exchange told)) before.named
      (All-map (λ (x : Timed). x.message.id ≡ id_of told) (timed (time_of told)) (sent_then c n.exchange told) (sent_named c n.exchange told));
  carried = All-append (λ (x : Timed). IsCopyOf (sent side) x.at x.message) n.came (came_with told) before.carried (came_carried sent side told h);
}

pub record IsCarriedPair (sent : Side → List Flight) (id : ℕ) (m : Measurement) : Type 0 where
  pub ru : IsCarriedNode (sent Ru) id m.ru
  pub du : IsCarriedNode (sent Du) id m.du

told_carried : (comps : Side → Compensation) (sent : Side → List Flight) (side : Side) (told : Told) (m : Measurement) → IsCarriedPair sent (id_of told) m → IsCarried sent side told
    → IsCarriedPair sent (id_of told) (with_node side (told_node (comps side) (node_of side m) told) m)
told_carried comps sent Ru told m before h = record { ru = node_carried (comps Ru) sent Ru m.ru told before.ru h; du = before.du }
told_carried comps sent Du told m before h = record { ru = before.ru; du = node_carried (comps Du) sent Du m.du told before.du h }

fresh_carried : (sent : List Flight) (id : ℕ) → IsCarriedNode sent id fresh
fresh_carried sent id = record { named = All-nil (λ (x : Timed). x.message.id ≡ id); carried = All-nil (λ (x : Timed). IsCopyOf sent x.at x.message) }

measured_carried : (comps : Side → Compensation) (sent : Side → List Flight) (id : ℕ) (heard : List Heard) → All (WasCarried sent) heard → IsCarriedPair sent id (measured comps id heard)
measured_carried comps sent id [] all = record { ru = fresh_carried (sent Ru) id; du = fresh_carried (sent Du) id }
measured_carried comps sent id (one ∷ earlier) all =
    let before = measured_carried comps sent id earlier (All-tail (WasCarried sent) one earlier all) in
    elim (cases_Bool (id_of one.told == id)) [
      | inl is ↦
          let same : id ≡ id_of one.told = sym (eqb-true (id_of one.told) id is) in
          let here = subst (λ (i : ℕ). IsCarriedPair sent i (measured comps id earlier)) same before in
          let now = subst (λ (i : ℕ). IsCarriedPair sent i (with_node one.side (told_node (comps one.side) (node_of one.side (measured comps id earlier)) one.told) (measured comps id earlier))) (sym same)
          (told_carried comps sent one.side one.told (measured comps id earlier) here (All-head (WasCarried sent) one earlier all)) in
          rw is now
      | inr not_it ↦ rw not_it before
    ]

of_side : (sent : Side → List Flight) (id : ℕ) (m : Measurement) (side : Side) → IsCarriedPair sent id m → IsCarriedNode (sent side) id (node_of side m)
of_side sent id m Ru all = all.ru
of_side sent id m Du all = all.du

back : (P : Side → Type 0) (side : Side) → P (other (other side)) → P side
back P Ru h = h
back P Du h = h

-- ---- the request's frame

pub tick_delays : TickDelaysAreOfRequests
tick_delays w pure are first n later one earlier v is known =
    let id : ℕ = id_of one.told in
    let s : State = state w first n in
    let pair : Measurement = measured w.comps id s.heard in
    let d = tick_has w pure are first n later one earlier v is known in
    let side : Side = d.0 in
    let all = measured_carried w.comps s.sent id s.heard (all_carried w pure first n) in
    let copy = All-contains (λ (x : Timed). IsCopyOf (s.sent (other side)) x.at x.message) (node_of (other side) pair).came d.1.copy (of_side s.sent id pair (other side) all).carried d.1.came in
    let asked = the_first (node_of side pair).sent d.1.request d.1.alone in
    let named : d.1.request.message.id ≡ id = All-contains (λ (x : Timed). x.message.id ≡ id) (node_of side pair).sent d.1.request (of_side s.sent id pair side all).named asked.0 in
    let message : copy.frame.message ≡ d.1.request.message = copy.is ∙ d.1.same in
    let frame_id : copy.frame.message.id ≡ id = ap (λ (m : DelayMessage). m.id) message ∙ named in
    let known_frame = All-contains (IsKnown w.comps s.heard (other side) (first +ℤ pos n)) (s.sent (other side)) copy.frame ((state_ready w pure first n).flights (other side)) copy.among in
    let was = back (λ (u : Side). WasSent w.comps s.heard u copy.frame.at copy.frame.message) side known_frame.was in
    let among = subst (λ (i : ℕ). Contains (node_of side (measured w.comps i s.heard)).sent (timed copy.frame.at copy.frame.message)) frame_id was in
    let asks : is_request (timed copy.frame.at copy.frame.message) ≡ true = ap (λ (m : DelayMessage). is_request (timed copy.frame.at m)) message ∙ asked.1 in
    record {
      side = side;
      has = d.1;
      frame = copy.frame;
      sent = copy.among;
      is = the_request (node_of side pair).sent (timed copy.frame.at copy.frame.message) d.1.request d.1.alone among asks;
      way = copy.way;
      of = copy.of;
      took = copy.took;
    }
