-- What a unit sends of delay measurement fits its fields, where its stamps do.
use Rattle.std.proofs.Common.{ℕ, ℤ, pos, negsuc, ◌-◌, ◌*◌, ◌+◌, ◌/◌, ◌%◌, ◌^◌, ◌<◌, ◌≤◌, ◌≤ℤ◌, Bool, true, false, if◌then◌else◌, List, [], ◌∷◌, arith}
use Rattle.std.specs.Prelude.{All, ◌==◌, nat_abs}
use Rattle.std.proofs.lemmas.Int.{ints}
use Rattle.std.proofs.lemmas.List.Elements.{All-cons, All-head, All-nil, All-tail}
use Rattle.std.proofs.lemmas.Nat.{mod_below}
use Rattle.bfp_codec.specs.Exponent.{Within}
use Rattle.delay_measure.specs.declared.edge.Compensation.{Compensation}
use Rattle.delay_laws.specs.Nodes.{sent_then, time_of}
use Rattle.delay_measure.specs.After.{Told, begins, comes, exchange_after, exchange_next, forgets, id_of}
use Rattle.delay_measure.specs.Stamps.{blank, receiving_stamp, sending_stamp, stamped}
use Rattle.delay_measure.specs.Table.{after_message, announced_in, answer_in, begin_in, exchange, follow_up_in, is_same, remote_in, remote_two_in, request_in, response, response_in, sent_at_begin, sent_at_step}
use Rattle.delay_measure.specs.declared.message.DelayMessage.{DelayMessage}
use Rattle.delay_measure.specs.declared.stamps.Stamp.{Stamp}
use Rattle.delay_measure.specs.declared.states.Exchange.{Exchange}
use Rattle.delay_measure.specs.declared.states.OwnState.{OwnState}
use Rattle.delay_measure.specs.declared.states.OwnState.TheVariants.{Idle, Waiting, Remote, Done}
use Rattle.delay_measure.specs.declared.states.PeerState.{PeerState}
use Rattle.delay_measure.specs.declared.states.PeerState.TheVariants.{Nothing, Noted, Answered}
use Rattle.delay_measure.specs.declared.steps.Begun.{Begun}
use Rattle.delay_measure.specs.declared.steps.Kind.{Kind}
use Rattle.delay_measure.specs.declared.steps.Kind.TheVariants.{One, Two, RemoteOne, RemoteTwo}
use Rattle.delay_measure.specs.declared.steps.MeterStep.{MeterStep}
use Rattle.delay_measure.specs.declared.steps.MeterStep.TheVariants.{Again, Unknown}
use Rattle.unit_model.specs.Radiated.{first_clock}
use Rattle.unit_model.specs.Times.{end_of_time}
use Rattle.delay_measure.specs.declared.stamps.TheConstants.{MOST_COMPENSATION}
use Rattle.fh_base.specs.declared.nanoseconds.TheConstants.{END_OF_TIME}

-- ---- stamps

-- its seconds have 48 bits and its compensation 64
pub record IsStamp (s : Stamp) : Type 0 where
  pub seconds : s.nanoseconds / 1000000000 < 2 ^ 48
  pub comp : Within 64 s.comp

-- a unit's two stamps at a time
pub record AreStamps (c : Compensation) (t : ℤ) : Type 0 where
  pub sending : IsStamp (sending_stamp t c.sending)
  pub receiving : IsStamp (receiving_stamp t c.receiving)

size_of_time : (t : ℤ) → first_clock ≤ℤ t → t ≤ℤ end_of_time → nat_abs t ≤ END_OF_TIME
size_of_time (pos n) low high = omega (arith, ints, high)
size_of_time (negsuc n) low high = omega (arith, ints, low)

size_of_comp : (c : ℤ) → pos 0 ≤ℤ c → c ≤ℤ pos MOST_COMPENSATION → nat_abs c ≤ MOST_COMPENSATION
size_of_comp (pos n) low high = omega (arith, ints, high)
size_of_comp (negsuc n) low high = absurd (omega (arith, ints, low))

comp_fits : (c : ℤ) → pos 0 ≤ℤ c → c ≤ℤ pos MOST_COMPENSATION → Within 64 c
comp_fits c low high = record { low = omega (arith, ints, low); high = omega (arith, ints, high) }

few_ns : (units : ℕ) → units ≤ 216466134528000000 → units / 196608 ≤ 1101004000000
few_ns units few = omega (arith, few)

few_seconds : (ns : ℕ) → ns ≤ 1101004000000 → ns / 1000000000 < 2 ^ 48
few_seconds ns few = omega (arith, few)

less_units : (t c : ℕ) → t ≤ END_OF_TIME → t * 128 - c * 3 ≤ 216466134528000000
less_units t c few = omega (arith, few)

more_units : (t c : ℕ) → t ≤ END_OF_TIME → c ≤ MOST_COMPENSATION → t * 128 + c * 3 ≤ 216466134528000000
more_units t c few small = omega (arith, few, small)

pub sending_fits : (t c : ℤ) → first_clock ≤ℤ t → t ≤ℤ end_of_time → pos 0 ≤ℤ c → c ≤ℤ pos MOST_COMPENSATION → IsStamp (sending_stamp t c)
sending_fits t c low high least most = record {
  seconds = few_seconds ((nat_abs t * 128 - nat_abs c * 3) / 196608) (few_ns (nat_abs t * 128 - nat_abs c * 3) (less_units (nat_abs t) (nat_abs c) (size_of_time t low high)));
  comp = comp_fits c least most;
}

pub receiving_fits : (t c : ℤ) → first_clock ≤ℤ t → t ≤ℤ end_of_time → pos 0 ≤ℤ c → c ≤ℤ pos MOST_COMPENSATION → IsStamp (receiving_stamp t c)
receiving_fits t c low high least most = record {
  seconds = few_seconds ((nat_abs t * 128 + nat_abs c * 3) / 196608)
      (few_ns (nat_abs t * 128 + nat_abs c * 3) (more_units (nat_abs t) (nat_abs c) (size_of_time t low high) (size_of_comp c least most)));
  comp = comp_fits c least most;
}

-- ---- messages

-- all of its numbers but the id are in their fields' widths
pub record FitsBesides (m : DelayMessage) : Type 0 where
  pub action : m.action < 2 ^ 8
  pub seconds : m.seconds < 2 ^ 48
  pub nanoseconds : m.nanoseconds < 2 ^ 32
  pub comp : Within 64 m.comp

below_a_second : (n : ℕ) → n < 1000000000 → n < 2 ^ 32
below_a_second n h = omega (arith, h)

stamped_fits : (id action : ℕ) (s : Stamp) → action < 2 ^ 8 → IsStamp s → FitsBesides (stamped id action s)
stamped_fits id action s small is = record {
  action = small;
  seconds = is.seconds;
  nanoseconds = below_a_second (s.nanoseconds % 1000000000) (mod_below s.nanoseconds 1000000000 (omega arith));
  comp = is.comp;
}

blank_fits : (id action : ℕ) → action < 2 ^ 8 → FitsBesides (blank id action)
blank_fits id action small = record {
  action = small;
  seconds = omega arith;
  nanoseconds = omega arith;
  comp = record { low = omega (arith, ints); high = omega (arith, ints) };
}

alone : (m : DelayMessage) → FitsBesides m → All FitsBesides (m ∷ [])
alone m is = All-cons FitsBesides m [] is (All-nil FitsBesides)

both : (m n : DelayMessage) → FitsBesides m → FitsBesides n → All FitsBesides (m ∷ n ∷ [])
both m n is also = All-cons FitsBesides m (n ∷ []) is (alone n also)

-- ---- what a unit keeps of its peer

abbrev pub HasStamps : PeerState → Type 0
HasStamps Nothing = Unit {0}
HasStamps (Noted first) = IsStamp first
HasStamps (Answered seen received) = IsStamp received

-- after a begin
record IsBegin (p : Exchange × Begun) : Type 0 where
  peer : HasStamps p.0.peer
  sent : All FitsBesides (sent_at_begin p.1)

-- after a message that was received
record IsStep (p : Exchange × MeterStep) : Type 0 where
  peer : HasStamps p.0.peer
  sent : All FitsBesides (sent_at_step p.1)

begun : (own : OwnState) (peer : PeerState) (kind : Kind) (id : ℕ) (now : Stamp) → HasStamps peer → IsStamp now → IsBegin (begin_in own peer kind id now)
begun Idle peer One id now has is = record { peer = has; sent = alone (stamped id 0 now) (stamped_fits id 0 now (omega arith) is) }
begun Idle peer Two id now has is = record { peer = has; sent = both (blank id 1) (stamped id 5 now) (blank_fits id 1 (omega arith)) (stamped_fits id 5 now (omega arith) is) }
begun Idle peer RemoteOne id now has is = record { peer = has; sent = alone (blank id 3) (blank_fits id 3 (omega arith)) }
begun Idle peer RemoteTwo id now has is = record { peer = has; sent = alone (blank id 4) (blank_fits id 4 (omega arith)) }
begun (Waiting stamp) peer kind id now has is = record { peer = has; sent = All-nil FitsBesides }
begun Remote peer kind id now has is = record { peer = has; sent = All-nil FitsBesides }
begun Done peer kind id now has is = record { peer = has; sent = All-nil FitsBesides }

response_fits : (m : DelayMessage) (received : Stamp) → IsStamp received → All FitsBesides (response m received ∷ [])
response_fits m received is = alone (response m received) (stamped_fits m.id 2 received (omega arith) is)

answered : (own : OwnState) (m : DelayMessage) (received : Stamp) → IsStamp received → IsStep (answer_in own m received)
answered Idle m received is = record { peer = is; sent = response_fits m received is }
answered (Waiting stamp) m received is = record { peer = is; sent = response_fits m received is }
answered Remote m received is = record { peer = is; sent = response_fits m received is }
answered Done m received is = record { peer = is; sent = response_fits m received is }

requested : (peer : PeerState) (own : OwnState) (m : DelayMessage) (now : Stamp) → HasStamps peer → IsStamp now → IsStep (request_in peer own m now)
requested Nothing own m now has is = answered own m now is
requested (Noted first) own m now has is = answered own m now is
requested (Answered seen received) own m now has is = go (is_same seen m)
  where
    go : (b : Bool) → IsStep (if b then (exchange own (Answered seen received), Again (response seen received)) else answer_in own m now)
    go true = record { peer = has; sent = response_fits seen received has }
    go false = answered own m now is

announced : (peer : PeerState) (own : OwnState) (now : Stamp) → HasStamps peer → IsStamp now → IsStep (announced_in peer own now)
announced Nothing own now has is = record { peer = is; sent = All-nil FitsBesides }
announced (Noted first) own now has is = record { peer = has; sent = All-nil FitsBesides }
announced (Answered seen received) own now has is = record { peer = is; sent = All-nil FitsBesides }

followed : (peer : PeerState) (own : OwnState) (m : DelayMessage) → HasStamps peer → IsStep (follow_up_in peer own m)
followed Nothing own m has = record { peer = has; sent = All-nil FitsBesides }
followed (Noted first) own m has = answered own m first has
followed (Answered seen received) own m has = go (is_same seen m)
  where
    go : (b : Bool) → IsStep (if b then (exchange own (Answered seen received), Again (response seen received)) else (exchange own (Answered seen received), Unknown))
    go true = record { peer = has; sent = response_fits seen received has }
    go false = record { peer = has; sent = All-nil FitsBesides }

responded : (own : OwnState) (peer : PeerState) (m : DelayMessage) → HasStamps peer → IsStep (response_in own peer m)
responded Idle peer m has = record { peer = has; sent = All-nil FitsBesides }
responded (Waiting stamp) peer m has = record { peer = has; sent = All-nil FitsBesides }
responded Remote peer m has = record { peer = has; sent = All-nil FitsBesides }
responded Done peer m has = record { peer = has; sent = All-nil FitsBesides }

asked : (own : OwnState) (peer : PeerState) (id : ℕ) (now : Stamp) → HasStamps peer → IsStamp now → IsStep (remote_in own peer id now)
asked Idle peer id now has is = record { peer = has; sent = alone (stamped id 0 now) (stamped_fits id 0 now (omega arith) is) }
asked (Waiting stamp) peer id now has is = record { peer = has; sent = All-nil FitsBesides }
asked Remote peer id now has is = record { peer = has; sent = All-nil FitsBesides }
asked Done peer id now has is = record { peer = has; sent = All-nil FitsBesides }

asked_two : (own : OwnState) (peer : PeerState) (id : ℕ) (now : Stamp) → HasStamps peer → IsStamp now → IsStep (remote_two_in own peer id now)
asked_two Idle peer id now has is = record { peer = has; sent = both (blank id 1) (stamped id 5 now) (blank_fits id 1 (omega arith)) (stamped_fits id 5 now (omega arith) is) }
asked_two (Waiting stamp) peer id now has is = record { peer = has; sent = All-nil FitsBesides }
asked_two Remote peer id now has is = record { peer = has; sent = All-nil FitsBesides }
asked_two Done peer id now has is = record { peer = has; sent = All-nil FitsBesides }

stepped : (e : Exchange) (m : DelayMessage) (sending receiving : Stamp) → HasStamps e.peer → IsStamp sending → IsStamp receiving → IsStep (after_message e m sending receiving)
stepped e m s r has sends receives = go (m.action == 0) (m.action == 1) (m.action == 2) (m.action == 3) (m.action == 4) (m.action == 5)
  where
    go : (a0 a1 a2 a3 a4 a5 : Bool)
        → IsStep (if a0 then request_in e.peer e.own m r
        else (if a1 then announced_in e.peer e.own r
        else (if a2 then response_in e.own e.peer m
        else (if a3 then remote_in e.own e.peer m.id s
        else (if a4 then remote_two_in e.own e.peer m.id s
        else (if a5 then follow_up_in e.peer e.own m
        else (e, Unknown)))))))
    go true a1 a2 a3 a4 a5 = requested e.peer e.own m r has receives
    go false true a2 a3 a4 a5 = announced e.peer e.own r has receives
    go false false true a3 a4 a5 = responded e.own e.peer m has
    go false false false true a4 a5 = asked e.own e.peer m.id s has sends
    go false false false false true a5 = asked_two e.own e.peer m.id s has sends
    go false false false false false true = followed e.peer e.own m has
    go false false false false false false = record { peer = has; sent = All-nil FitsBesides }

-- ---- what a unit sends when it is told something, and what it then keeps

pub told_sends : (c : Compensation) (e : Exchange) (told : Told) → AreStamps c (time_of told) → HasStamps e.peer → All FitsBesides (sent_then c e told)
told_sends c e (begins t id kind) are has = (begun e.own e.peer kind id (sending_stamp t c.sending) has are.sending).sent
told_sends c e (comes t m) are has = (stepped e m (sending_stamp t c.sending) (receiving_stamp t c.receiving) has are.sending are.receiving).sent
told_sends c e (forgets id) are has = All-nil FitsBesides

told_keeps : (c : Compensation) (e : Exchange) (told : Told) → AreStamps c (time_of told) → HasStamps e.peer → HasStamps (exchange_next c.sending c.receiving told e).peer
told_keeps c e (begins t id kind) are has = (begun e.own e.peer kind id (sending_stamp t c.sending) has are.sending).peer
told_keeps c e (comes t m) are has = (stepped e m (sending_stamp t c.sending) (receiving_stamp t c.receiving) has are.sending are.receiving).peer
told_keeps c e (forgets id) are has = tt

-- after all of these
pub has_stamps : (c : Compensation) (all : List Told) → All (λ told. AreStamps c (time_of told)) all → (id : ℕ) → HasStamps (exchange_after c.sending c.receiving all id).peer
has_stamps c [] are id = tt
has_stamps c (told ∷ earlier) are id = go (id_of told == id) (has_stamps c earlier (All-tail (λ (x : Told). AreStamps c (time_of x)) told earlier are) id)
  where
    go : (b : Bool) → HasStamps (exchange_after c.sending c.receiving earlier id).peer
        → HasStamps (if b then exchange_next c.sending c.receiving told (exchange_after c.sending c.receiving earlier id) else exchange_after c.sending c.receiving earlier id).peer
    go true before = told_keeps c (exchange_after c.sending c.receiving earlier id) told (All-head (λ (x : Told). AreStamps c (time_of x)) told earlier are) before
    go false before = before
