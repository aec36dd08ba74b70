-- How far both units are with one measurement id: nothing was done; one asked the other for a request; one sent the request.
use Rattle.std.proofs.Common.{◌≡◌, ℕ, ℤ, pos, ◌≤ℤ◌, Bool, true, List, [], ◌∷◌, ◌++◌, inl, inr}
use Rattle.std.specs.Prelude.{Contains, All, ◌⊎◌}
use Rattle.std.proofs.lemmas.List.Elements.{All-weaker, Contains-append_left}
use Rattle.delay_measure.specs.declared.message.DelayMessage.{DelayMessage}
use Rattle.delay_measure.specs.declared.stamps.Stamp.{Stamp}
use Rattle.delay_measure.specs.declared.states.OwnState.{OwnState}
use Rattle.delay_measure.specs.declared.states.OwnState.TheVariants.{Idle, Waiting, Remote, Done}
use Rattle.delay_measure.specs.declared.states.PeerState.{PeerState}
use Rattle.delay_measure.specs.declared.states.PeerState.TheVariants.{Nothing, Noted, Answered}
use Rattle.delay_measure.specs.Stamps.{sending_stamp, receiving_stamp, stamped, blank}
use Rattle.delay_measure.specs.Table.{exchange}
use Rattle.delay_measure.specs.declared.edge.Compensation.{Compensation}
use Rattle.delay_laws.specs.Nodes.{Node, Timed, fresh, requests}

-- Remote Request, with Follow_Up or without
abbrev pub IsRemote : DelayMessage → Type 0
IsRemote m = (m.action ≡ 3) ⊎ (m.action ≡ 4)

-- a message of a request that is sent at this time: Request, Request with Follow_Up, Follow_Up
abbrev pub IsPart : Compensation → ℤ → DelayMessage → Type 0
IsPart c at m = ((j : ℕ) × (m ≡ stamped j 0 (sending_stamp at c.sending))) ⊎ (((j : ℕ) × (m ≡ blank j 1)) ⊎ ((j : ℕ) × (m ≡ stamped j 5 (sending_stamp at c.sending))))

-- the stamp of a copy of the request that was received
pub record IsOfCopy (c : Compensation) (came : List Timed) (request : Timed) (stamp : Stamp) : Type 0 where
  pub copy : Timed
  pub among : Contains came copy
  pub same : copy.message ≡ request.message
  pub later : request.at ≤ℤ copy.at
  pub is : stamp ≡ receiving_stamp copy.at c.receiving

-- a Response with such a stamp
pub record IsResponse (c : Compensation) (came : List Timed) (request : Timed) (m : DelayMessage) : Type 0 where
  pub id : ℕ
  pub stamp : Stamp
  pub is : m ≡ stamped id 2 stamp
  pub copy : IsOfCopy c came request stamp

-- what the unit that did not send the request has sent
abbrev pub IsReply : Compensation → List Timed → Timed → DelayMessage → Type 0
IsReply c came request m = IsRemote m ⊎ IsResponse c came request m

abbrev pub KnowsPeer : Compensation → List Timed → Timed → PeerState → Type 0
KnowsPeer c came request Nothing = Unit {0}
KnowsPeer c came request (Noted stamp) = IsOfCopy c came request stamp
KnowsPeer c came request (Answered m stamp) = IsOfCopy c came request stamp

abbrev pub IsNotWaiting : OwnState → Type 0
IsNotWaiting Idle = Unit {0}
IsNotWaiting (Waiting stamp) = ⊥
IsNotWaiting Remote = Unit {0}
IsNotWaiting Done = Unit {0}

-- it waits for the Response to the request of this time, or has had it
abbrev pub HasSent : Compensation → ℤ → OwnState → Type 0
HasSent c at Idle = ⊥
HasSent c at (Waiting stamp) = stamp ≡ sending_stamp at c.sending
HasSent c at Remote = ⊥
HasSent c at Done = Unit {0}

abbrev pub IsNothing : PeerState → Type 0
IsNothing Nothing = Unit {0}
IsNothing (Noted stamp) = ⊥
IsNothing (Answered m stamp) = ⊥

-- nothing was done
pub record Untouched (me you : Node) : Type 0 where
  pub mine : me ≡ fresh
  pub yours : you ≡ fresh

-- the first unit asked for a request, and none was sent
pub record Asked (begun : Bool) (me you : Node) : Type 0 where
  pub begun_is : begun ≡ true
  pub exchange_is : me.exchange ≡ exchange Remote Nothing
  pub sent : All (λ x. IsRemote x.message) me.sent
  pub yours : you ≡ fresh

-- the first unit sent the request
pub record Requested (begun : Bool) (mine yours : Compensation) (me you : Node) : Type 0 where
  pub begun_is : begun ≡ true
  pub request : Timed
  pub late : pos 1536000000 ≤ℤ request.at
  pub alone : requests me.sent ≡ request ∷ []
  pub own : HasSent mine request.at me.exchange.own
  pub peer : IsNothing me.exchange.peer
  pub sent : All (λ x. (x.at ≡ request.at) × IsPart mine request.at x.message) me.sent
  pub your_own : IsNotWaiting you.exchange.own
  pub your_peer : KnowsPeer yours you.came request you.exchange.peer
  pub replies : All (λ x. IsReply yours you.came request x.message) you.sent
  pub silent : requests you.sent ≡ []

abbrev pub Phase : Bool → Compensation → Compensation → Node → Node → Type 0
Phase begun mine yours me you = Untouched me you ⊎ (Asked begun me you ⊎ (Asked begun you me ⊎ (Requested begun mine yours me you ⊎ Requested begun yours mine you me)))

pub swapped : (begun : Bool) (mine yours : Compensation) (me you : Node) → Phase begun mine yours me you → Phase begun yours mine you me
swapped begun mine yours me you (inl h) = inl (record { mine = h.yours; yours = h.mine })
swapped begun mine yours me you (inr (inl h)) = inr (inr (inl h))
swapped begun mine yours me you (inr (inr (inl h))) = inr (inl h)
swapped begun mine yours me you (inr (inr (inr (inl h)))) = inr (inr (inr (inr h)))
swapped begun mine yours me you (inr (inr (inr (inr h)))) = inr (inr (inr (inl h)))

-- ---- more that was received changes nothing of what is known

pub copy_stays : (c : Compensation) (came more : List Timed) (request : Timed) (stamp : Stamp) → IsOfCopy c came request stamp → IsOfCopy c (came ++ more) request stamp
copy_stays c came more request stamp h = record { copy = h.copy; among = Contains-append_left came more h.copy h.among; same = h.same; later = h.later; is = h.is }

pub peer_stays : (c : Compensation) (came more : List Timed) (request : Timed) (peer : PeerState) → KnowsPeer c came request peer → KnowsPeer c (came ++ more) request peer
peer_stays c came more request Nothing h = tt
peer_stays c came more request (Noted stamp) h = copy_stays c came more request stamp h
peer_stays c came more request (Answered m stamp) h = copy_stays c came more request stamp h

pub reply_stays : (c : Compensation) (came more : List Timed) (request : Timed) (m : DelayMessage) → IsReply c came request m → IsReply c (came ++ more) request m
reply_stays c came more request m (inl h) = inl h
reply_stays c came more request m (inr h) = inr (record { id = h.id; stamp = h.stamp; is = h.is; copy = copy_stays c came more request h.stamp h.copy })

pub replies_stay : (c : Compensation) (came more : List Timed) (request : Timed) (sent : List Timed) → All (λ x. IsReply c came request x.message) sent → All (λ x. IsReply c (came ++ more) request x.message) sent
replies_stay c came more request sent all = All-weaker (λ (x : Timed). IsReply c came request x.message) (λ (x : Timed). IsReply c (came ++ more) request x.message) (λ x h. reply_stays c came more request x.message h) sent all
