-- What a meter makes of a Response.
use Rattle.std.proofs.Common.{◌≡◌, ℤ, Bool, true, false, if◌then◌else◌, Some, None, refl, ap, ◌∙◌}
use Rattle.delay_measure.specs.declared.message.DelayMessage.{DelayMessage}
use Rattle.delay_measure.specs.declared.stamps.Stamp.{Stamp}
use Rattle.delay_measure.specs.declared.states.Exchange.{Exchange}
use Rattle.delay_measure.specs.declared.states.OwnState.{OwnState}
use Rattle.delay_measure.specs.declared.states.OwnState.TheVariants.{Idle, Waiting, Remote, Done}
use Rattle.delay_measure.specs.declared.states.PeerState.{PeerState}
use Rattle.delay_measure.specs.declared.steps.MeterStep.{MeterStep}
use Rattle.delay_measure.specs.declared.steps.MeterStep.TheVariants.{Result as ResultAlone}
use Rattle.delay_measure.specs.Payload.{value_of}
use Rattle.delay_measure.specs.Stamps.{delay_between}
use Rattle.delay_measure.specs.Table.{after_message, response_in}
use Rattle.delay_laws.proofs.Asking.{of_response}

pub read_as : (short : Bool) (m n : DelayMessage) → Some m ≡ (if short then None else Some n) → m ≡ n
read_as true m n e = absurd cc
read_as false m n e = cc

-- the delay is that from the stamp that was sent to the message's
abbrev pub IsDelay : OwnState → DelayMessage → ℤ → Type 0
IsDelay own m delay = (sent : Stamp) × (own ≡ Waiting sent) × (delay ≡ delay_between sent.nanoseconds sent.comp (value_of m) m.comp)

by_own : (own : OwnState) (peer : PeerState) (m : DelayMessage) (delay : ℤ) → ResultAlone delay ≡ (response_in own peer m).1 → IsDelay own m delay
by_own Idle peer m delay e = absurd cc
by_own (Waiting sent) peer m delay e = (sent, refl, cc)
by_own Remote peer m delay e = absurd cc
by_own Done peer m delay e = absurd cc

pub is_delay : (e : Exchange) (m : DelayMessage) (sending receiving : Stamp) (next : Exchange) (delay : ℤ) → m.action ≡ 2
    → (next, ResultAlone delay) ≡ after_message e m sending receiving → IsDelay e.own m delay
is_delay e m sending receiving next delay is step = by_own e.own e.peer m delay (ap (λ (p : Exchange × MeterStep). p.1) (step ∙ of_response e m sending receiving is))
