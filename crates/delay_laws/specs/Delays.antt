-- How a measured delay relates to the time that a request was on its way.
use Rattle.std.specs.Prelude.{◌≡◌, ℕ, ℤ, pos, ◌*ℤ◌, ◌+ℤ◌, ◌-ℤ◌, ◌≤ℤ◌, ◌<ℤ◌, [], ◌∷◌, Contains}
use Rattle.delay_measure.specs.Stamps.{sending_ns, receiving_ns, delay_between}
use Rattle.delay_measure.specs.declared.edge.Compensation.{Compensation}
use Rattle.delay_laws.specs.Nodes.{Node, Timed, requests}
use Rattle.fh_base.specs.declared.nanoseconds.TheConstants.{NANOSECOND}

-- a delay, in units of 2^-16 ns, is the time between two others, in ticks of 1/1536 ns, but for less than a nanosecond
pub record IsNear (from to delay : ℤ) : Type 0 where
  pub above : (pos 65536 *ℤ (to -ℤ from)) <ℤ ((pos NANOSECOND *ℤ delay) +ℤ pos 100663296)
  pub below : (pos NANOSECOND *ℤ delay) <ℤ ((pos 65536 *ℤ (to -ℤ from)) +ℤ pos 100663296)

-- a whole number of nanoseconds: of a time, in ticks, and of a compensation, in units of 2^-16 ns
abbrev pub IsWholeTime : ℤ → Type 0
IsWholeTime t = (n : ℕ) × (t ≡ pos NANOSECOND *ℤ pos n)

abbrev pub IsWholeCompensation : ℤ → Type 0
IsWholeCompensation c = (n : ℕ) × (c ≡ pos 65536 *ℤ pos n)

-- One request was sent by both units together. A copy of it was received by the other unit, and the delay is the one between the stamps
-- of these two, by the compensations of the unit that sent it and of the unit that received it. So it is the time on the way, but for
-- less than a nanosecond, and exactly that time where all are whole nanoseconds.
pub record HasDelay (requester responder : Compensation) (asking answering : Node) (delay : ℤ) : Type 0 where
  pub request : Timed
  pub alone : requests asking.sent ≡ request ∷ []
  pub silent : requests answering.sent ≡ []
  pub copy : Timed
  pub came : Contains answering.came copy
  pub same : copy.message ≡ request.message
  pub later : request.at ≤ℤ copy.at
  pub value : delay ≡ delay_between (sending_ns request.at requester.sending) requester.sending (receiving_ns copy.at responder.receiving) responder.receiving
  pub near : IsNear request.at copy.at delay
  pub exact : IsWholeTime request.at → IsWholeTime copy.at → IsWholeCompensation requester.sending → IsWholeCompensation responder.receiving
      → (pos NANOSECOND *ℤ delay) ≡ (pos 65536 *ℤ (copy.at -ℤ request.at))
