-- The exchange of one measurement id (eCPRI 2.0, section 3.2.4.6): what a begin and each message do to the own state and
-- the peer state, and what is answered.
use Rattle.std.specs.Prelude.{ℕ, ◌<◌, ◌^◌, Bool, ◌&&◌, ◌==◌, if◌then◌else◌, List, [], ◌∷◌, All, Option, Some, None}
use Rattle.std.specs.Ordering.{int_eq}
use Rattle.delay_measure.specs.declared.message.DelayMessage.{DelayMessage}
use Rattle.delay_measure.specs.declared.stamps.Stamp.{Stamp}
use Rattle.delay_measure.specs.declared.states.OwnState.{OwnState}
use Rattle.delay_measure.specs.declared.states.OwnState.TheVariants.{Idle, Waiting, Remote, Done}
use Rattle.delay_measure.specs.declared.states.PeerState.{PeerState}
use Rattle.delay_measure.specs.declared.states.PeerState.TheVariants.{Nothing, Noted, Answered}
use Rattle.delay_measure.specs.declared.states.Exchange.{Exchange}
use Rattle.delay_measure.specs.declared.steps.Kind.{Kind}
use Rattle.delay_measure.specs.declared.steps.Kind.TheVariants.{One, Two, RemoteOne, RemoteTwo}
use Rattle.delay_measure.specs.declared.steps.Begun.{Begun}
use Rattle.delay_measure.specs.declared.steps.Begun.TheVariants.{Send as BegunSend, SendTwo as BegunTwo, InUse}
use Rattle.delay_measure.specs.declared.steps.MeterStep.{MeterStep}
use Rattle.delay_measure.specs.declared.steps.MeterStep.TheVariants.{Send, SendTwo, SendResult, Result as ResultAlone, Again, Noted as NotedNow, Repeat, Unknown}
use Rattle.delay_measure.specs.Payload.{value_of}
use Rattle.delay_measure.specs.Stamps.{delay_between, stamped, blank}

abbrev pub exchange : OwnState → PeerState → Exchange
exchange own peer = record { own = own; peer = peer }

-- an id that nothing was done with
abbrev pub unused : Exchange
unused = exchange Idle Nothing

-- all five fields are equal
abbrev pub is_same : DelayMessage → DelayMessage → Bool
is_same a b = a.id == b.id && (a.action == b.action && (a.seconds == b.seconds && (a.nanoseconds == b.nanoseconds && int_eq a.comp b.comp)))

-- the Response to a peer's message, with the receiving stamp
abbrev pub response : DelayMessage → Stamp → DelayMessage
response m received = stamped m.id 2 received

-- the Response that was sent, where this very message was answered
abbrev pub kept_for : PeerState → DelayMessage → Option DelayMessage
kept_for Nothing m = None
kept_for (Noted first) m = None
kept_for (Answered seen received) m = if is_same seen m then Some (response seen received) else None

-- a begin in the own state Idle
abbrev pub begin_idle : Kind → ℕ → Stamp → PeerState → Exchange × Begun
begin_idle One id now peer = (exchange (Waiting now) peer, BegunSend (stamped id 0 now))
begin_idle Two id now peer = (exchange (Waiting now) peer, BegunTwo (blank id 1) (stamped id 5 now))
begin_idle RemoteOne id now peer = (exchange Remote peer, BegunSend (blank id 3))
begin_idle RemoteTwo id now peer = (exchange Remote peer, BegunSend (blank id 4))

-- a begin, by the own state
abbrev pub begin_in : OwnState → PeerState → Kind → ℕ → Stamp → Exchange × Begun
begin_in Idle peer kind id now = begin_idle kind id now peer
begin_in (Waiting sent) peer kind id now = (exchange (Waiting sent) peer, InUse)
begin_in Remote peer kind id now = (exchange Remote peer, InUse)
begin_in Done peer kind id now = (exchange Done peer, InUse)

-- what a begin does, at a sending stamp
abbrev pub after_begin : Exchange → Kind → ℕ → Stamp → Exchange × Begun
after_begin e kind id now = begin_in e.own e.peer kind id now

-- the Response, by the own state: where a remote request of this end is answered by the message, its delay is known
abbrev pub answer_in : OwnState → DelayMessage → Stamp → Exchange × MeterStep
answer_in Idle m received = (exchange Idle (Answered m received), Send (response m received))
answer_in (Waiting sent) m received = (exchange (Waiting sent) (Answered m received), Send (response m received))
answer_in Remote m received = (exchange Done (Answered m received), SendResult (response m received) (delay_between (value_of m) m.comp received.nanoseconds received.comp))
answer_in Done m received = (exchange Done (Answered m received), Send (response m received))

-- Request, by the peer state
abbrev pub request_in : PeerState → OwnState → DelayMessage → Stamp → Exchange × MeterStep
request_in Nothing own m now = answer_in own m now
request_in (Noted first) own m now = answer_in own m now
request_in (Answered seen received) own m now =
    if is_same seen m then (exchange own (Answered seen received), Again (response seen received))
    else answer_in own m now

-- Request with Follow_Up, by the peer state
abbrev pub announced_in : PeerState → OwnState → Stamp → Exchange × MeterStep
announced_in Nothing own now = (exchange own (Noted now), NotedNow)
announced_in (Noted first) own now = (exchange own (Noted first), Repeat)
announced_in (Answered seen received) own now = (exchange own (Noted now), NotedNow)

-- Follow_Up, by the peer state: the stamp is that of the request which it follows
abbrev pub follow_up_in : PeerState → OwnState → DelayMessage → Exchange × MeterStep
follow_up_in Nothing own m = (exchange own Nothing, Unknown)
follow_up_in (Noted first) own m = answer_in own m first
follow_up_in (Answered seen received) own m =
    if is_same seen m then (exchange own (Answered seen received), Again (response seen received))
    else (exchange own (Answered seen received), Unknown)

-- Response, by the own state
abbrev pub response_in : OwnState → PeerState → DelayMessage → Exchange × MeterStep
response_in Idle peer m = (exchange Idle peer, Unknown)
response_in (Waiting sent) peer m = (exchange Done peer, ResultAlone (delay_between sent.nanoseconds sent.comp (value_of m) m.comp))
response_in Remote peer m = (exchange Remote peer, Unknown)
response_in Done peer m = (exchange Done peer, Repeat)

-- Remote Request, by the own state
abbrev pub remote_in : OwnState → PeerState → ℕ → Stamp → Exchange × MeterStep
remote_in Idle peer id now = (exchange (Waiting now) peer, Send (stamped id 0 now))
remote_in (Waiting sent) peer id now = (exchange (Waiting sent) peer, Repeat)
remote_in Remote peer id now = (exchange Remote peer, Repeat)
remote_in Done peer id now = (exchange Done peer, Repeat)

-- Remote Request with Follow_Up, by the own state
abbrev pub remote_two_in : OwnState → PeerState → ℕ → Stamp → Exchange × MeterStep
remote_two_in Idle peer id now = (exchange (Waiting now) peer, SendTwo (blank id 1) (stamped id 5 now))
remote_two_in (Waiting sent) peer id now = (exchange (Waiting sent) peer, Repeat)
remote_two_in Remote peer id now = (exchange Remote peer, Repeat)
remote_two_in Done peer id now = (exchange Done peer, Repeat)

-- what a message does, by its action, where a message sent and one received would have these stamps
abbrev pub after_message : Exchange → DelayMessage → Stamp → Stamp → Exchange × MeterStep
after_message e m sending receiving =
    if m.action == 0 then request_in e.peer e.own m receiving
    else (if m.action == 1 then announced_in e.peer e.own receiving
    else (if m.action == 2 then response_in e.own e.peer m
    else (if m.action == 3 then remote_in e.own e.peer m.id sending
    else (if m.action == 4 then remote_two_in e.own e.peer m.id sending
    else (if m.action == 5 then follow_up_in e.peer e.own m
    else (e, Unknown))))))

-- the messages that a begin sends
abbrev pub sent_at_begin : Begun → List DelayMessage
sent_at_begin (BegunSend m) = m ∷ []
sent_at_begin (BegunTwo m n) = m ∷ n ∷ []
sent_at_begin InUse = []

-- the messages that a step sends
abbrev pub sent_at_step : MeterStep → List DelayMessage
sent_at_step (Send m) = m ∷ []
sent_at_step (SendTwo m n) = m ∷ n ∷ []
sent_at_step (SendResult m delay) = m ∷ []
sent_at_step (ResultAlone delay) = []
sent_at_step (Again m) = m ∷ []
sent_at_step NotedNow = []
sent_at_step Repeat = []
sent_at_step Unknown = []

-- each message can be written: its seconds are under 2^48
abbrev pub CanBeWritten : List DelayMessage → Type 0
CanBeWritten = All (λ m. m.seconds < 2 ^ 48)
