-- What is sent when a unit is told something: what holds of all of it.
use Rattle.std.proofs.Common.{◌≡◌, ℕ, suc, ◌≤◌, ◌==◌, ◌&&◌, true, List, [], ◌∷◌, refl, sym, subst, arith, inl, inr}
use Rattle.std.specs.Prelude.{All, ◌⊎◌}
use Rattle.std.specs.Ordering.{int_eq}
use Rattle.std.proofs.lemmas.Bool.{and_parts, cases_Bool, eqb-true}
use Rattle.std.proofs.lemmas.List.Elements.{All-cons, All-nil}
use Rattle.delay_measure.specs.declared.message.DelayMessage.{DelayMessage}
use Rattle.delay_measure.specs.declared.stamps.Stamp.{Stamp}
use Rattle.delay_measure.specs.declared.states.Exchange.{Exchange}
use Rattle.delay_measure.specs.declared.states.OwnState.{OwnState}
use Rattle.delay_measure.specs.declared.states.OwnState.TheVariants.{Idle, Waiting, Remote, Done}
use Rattle.delay_measure.specs.declared.states.PeerState.{PeerState}
use Rattle.delay_measure.specs.declared.states.PeerState.TheVariants.{Nothing, Noted, Answered}
use Rattle.delay_measure.specs.declared.steps.Kind.{Kind}
use Rattle.delay_measure.specs.declared.steps.Kind.TheVariants.{One, Two, RemoteOne, RemoteTwo}
use Rattle.delay_measure.specs.After.{Told, begins, comes, forgets, id_of}
use Rattle.delay_measure.specs.Stamps.{sending_stamp, receiving_stamp, stamped, blank}
use Rattle.delay_measure.specs.Table.{after_message, announced_in, answer_in, begin_in, follow_up_in, is_same, remote_in, remote_two_in, request_in, response_in, sent_at_begin, sent_at_step}
use Rattle.delay_measure.specs.declared.edge.Compensation.{Compensation}
use Rattle.delay_laws.specs.Nodes.{sent_then}
use Rattle.delay_laws.specs.Ends.{step_of}

-- P holds of each message that the table answers to this one
pub record Answers (P : DelayMessage → Type 0) (m : DelayMessage) : Type 0 where
  pub response : (m.action ≡ 0) ⊎ (m.action ≡ 5) → (id : ℕ) (stamp : Stamp) → id ≡ m.id → P (stamped id 2 stamp)
  pub request : m.action ≡ 3 → (stamp : Stamp) → P (stamped m.id 0 stamp)
  pub announced : m.action ≡ 4 → P (blank m.id 1)
  pub follow_up : m.action ≡ 4 → (stamp : Stamp) → P (stamped m.id 5 stamp)

one : (P : DelayMessage → Type 0) (m : DelayMessage) → P m → All P (m ∷ [])
one P m is = All-cons P m [] is (All-nil P)

two : (P : DelayMessage → Type 0) (m n : DelayMessage) → P m → P n → All P (m ∷ n ∷ [])
two P m n is also = All-cons P m (n ∷ []) is (one P n also)

of_answer : (P : DelayMessage → Type 0) (own : OwnState) (m : DelayMessage) (stamp : Stamp) → P (stamped m.id 2 stamp) → All P (sent_at_step (answer_in own m stamp).1)
of_answer P Idle m stamp is = one P (stamped m.id 2 stamp) is
of_answer P (Waiting sent) m stamp is = one P (stamped m.id 2 stamp) is
of_answer P Remote m stamp is = one P (stamped m.id 2 stamp) is
of_answer P Done m stamp is = one P (stamped m.id 2 stamp) is

same_id : (a b : DelayMessage) → is_same a b ≡ true → a.id ≡ b.id
same_id a b is = eqb-true a.id b.id (and_parts (a.id == b.id) (a.action == b.action && (a.seconds == b.seconds && (a.nanoseconds == b.nanoseconds && int_eq a.comp b.comp))) is).0

of_request : (P : DelayMessage → Type 0) (peer : PeerState) (own : OwnState) (m : DelayMessage) (now : Stamp) → ((id : ℕ) (stamp : Stamp) → id ≡ m.id → P (stamped id 2 stamp)) → All P (sent_at_step (request_in peer own m now).1)
of_request P Nothing own m now is = of_answer P own m now (is m.id now refl)
of_request P (Noted first) own m now is = of_answer P own m now (is m.id now refl)
of_request P (Answered seen first) own m now is = elim (cases_Bool (is_same seen m)) [
  | inl same ↦ let kept = one P (stamped seen.id 2 first) (is seen.id first (same_id seen m same)) in rw same kept
  | inr other ↦ let new = of_answer P own m now (is m.id now refl) in rw other new
]

of_announced : (P : DelayMessage → Type 0) (peer : PeerState) (own : OwnState) (now : Stamp) → All P (sent_at_step (announced_in peer own now).1)
of_announced P Nothing own now = All-nil P
of_announced P (Noted first) own now = All-nil P
of_announced P (Answered seen first) own now = All-nil P

of_follow_up : (P : DelayMessage → Type 0) (peer : PeerState) (own : OwnState) (m : DelayMessage) → ((id : ℕ) (stamp : Stamp) → id ≡ m.id → P (stamped id 2 stamp)) → All P (sent_at_step (follow_up_in peer own m).1)
of_follow_up P Nothing own m is = All-nil P
of_follow_up P (Noted first) own m is = of_answer P own m first (is m.id first refl)
of_follow_up P (Answered seen first) own m is = elim (cases_Bool (is_same seen m)) [
  | inl same ↦ let kept = one P (stamped seen.id 2 first) (is seen.id first (same_id seen m same)) in rw same kept
  | inr other ↦ let none = All-nil P in rw other none
]

of_response : (P : DelayMessage → Type 0) (own : OwnState) (peer : PeerState) (m : DelayMessage) → All P (sent_at_step (response_in own peer m).1)
of_response P Idle peer m = All-nil P
of_response P (Waiting sent) peer m = All-nil P
of_response P Remote peer m = All-nil P
of_response P Done peer m = All-nil P

of_remote : (P : DelayMessage → Type 0) (own : OwnState) (peer : PeerState) (id : ℕ) (now : Stamp) → P (stamped id 0 now) → All P (sent_at_step (remote_in own peer id now).1)
of_remote P Idle peer id now is = one P (stamped id 0 now) is
of_remote P (Waiting sent) peer id now is = All-nil P
of_remote P Remote peer id now is = All-nil P
of_remote P Done peer id now is = All-nil P

of_remote_two : (P : DelayMessage → Type 0) (own : OwnState) (peer : PeerState) (id : ℕ) (now : Stamp) → P (blank id 1) → P (stamped id 5 now) → All P (sent_at_step (remote_two_in own peer id now).1)
of_remote_two P Idle peer id now is also = two P (blank id 1) (stamped id 5 now) is also
of_remote_two P (Waiting sent) peer id now is also = All-nil P
of_remote_two P Remote peer id now is also = All-nil P
of_remote_two P Done peer id now is also = All-nil P

-- what a message is answered by
pub answered_by : (P : DelayMessage → Type 0) (e : Exchange) (m : DelayMessage) (s r : Stamp) → Answers P m → All P (sent_at_step (after_message e m s r).1)
answered_by P e m s r all = elim (cases_Bool (m.action == 0)) [
  | inl is ↦ let a = of_request P e.peer e.own m r (all.response (inl (eqb-true m.action 0 is))) in rw is a
  | inr n0 ↦ elim (cases_Bool (m.action == 1)) [
    | inl is ↦ let a = of_announced P e.peer e.own r in rw (n0, is) a
    | inr n1 ↦ elim (cases_Bool (m.action == 2)) [
      | inl is ↦ let a = of_response P e.own e.peer m in rw (n0, n1, is) a
      | inr n2 ↦ elim (cases_Bool (m.action == 3)) [
        | inl is ↦ let a = of_remote P e.own e.peer m.id s (all.request (eqb-true m.action 3 is) s) in rw (n0, n1, n2, is) a
        | inr n3 ↦ elim (cases_Bool (m.action == 4)) [
          | inl is ↦ let a = of_remote_two P e.own e.peer m.id s (all.announced (eqb-true m.action 4 is)) (all.follow_up (eqb-true m.action 4 is) s) in rw (n0, n1, n2, n3, is) a
          | inr n4 ↦ elim (cases_Bool (m.action == 5)) [
            | inl is ↦ let a = of_follow_up P e.peer e.own m (all.response (inr (eqb-true m.action 5 is))) in rw (n0, n1, n2, n3, n4, is) a
            | inr n5 ↦ let a = All-nil P in rw (n0, n1, n2, n3, n4, n5) a
          ]
        ]
      ]
    ]
  ]
]

-- ---- it names the id

abbrev pub Name : ℕ → List DelayMessage → Type 0
Name id ms = All (λ m. m.id ≡ id) ms

of_begin : (own : OwnState) (peer : PeerState) (kind : Kind) (id : ℕ) (now : Stamp) → Name id (sent_at_begin (begin_in own peer kind id now).1)
of_begin Idle peer One id now = one (λ (x : DelayMessage). x.id ≡ id) (stamped id 0 now) refl
of_begin Idle peer Two id now = two (λ (x : DelayMessage). x.id ≡ id) (blank id 1) (stamped id 5 now) refl refl
of_begin Idle peer RemoteOne id now = one (λ (x : DelayMessage). x.id ≡ id) (blank id 3) refl
of_begin Idle peer RemoteTwo id now = one (λ (x : DelayMessage). x.id ≡ id) (blank id 4) refl
of_begin (Waiting stamp) peer kind id now = All-nil (λ (x : DelayMessage). x.id ≡ id)
of_begin Remote peer kind id now = All-nil (λ (x : DelayMessage). x.id ≡ id)
of_begin Done peer kind id now = All-nil (λ (x : DelayMessage). x.id ≡ id)

pub sent_named : (c : Compensation) (e : Exchange) (told : Told) → Name (id_of told) (sent_then c e told)
sent_named c e (begins t id kind) = of_begin e.own e.peer kind id (sending_stamp t c.sending)
sent_named c e (comes t m) =
    answered_by (λ (x : DelayMessage). x.id ≡ m.id) e m (sending_stamp t c.sending) (receiving_stamp t c.receiving)
    (record { response = λ by id stamp is. is; request = λ by stamp. refl; announced = λ by. refl; follow_up = λ by stamp. refl })
sent_named c e (forgets id) = All-nil (λ (x : DelayMessage). x.id ≡ id)

-- ---- it is further on in the exchange

higher : (a b n : ℕ) → a ≡ b → suc (step_of b) ≤ n → suc (step_of a) ≤ n
higher a b n is le = subst (λ (x : ℕ). suc (step_of x) ≤ n) (sym is) le

pub sent_later : (e : Exchange) (m : DelayMessage) (s r : Stamp) → All (λ x. suc (step_of m.action) ≤ step_of x.action) (sent_at_step (after_message e m s r).1)
sent_later e m s r = answered_by (λ (x : DelayMessage). suc (step_of m.action) ≤ step_of x.action) e m s r (record {
  response = λ by id stamp is. elim by [ inl a ↦ higher m.action 0 2 a (omega arith) | inr a ↦ higher m.action 5 2 a (omega arith) ];
  request = λ a stamp. higher m.action 3 1 a (omega arith);
  announced = λ a. higher m.action 4 1 a (omega arith);
  follow_up = λ a stamp. higher m.action 4 1 a (omega arith);
})
