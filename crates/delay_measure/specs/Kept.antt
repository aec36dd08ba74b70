-- What is known of a compensation, of the closure that a meter keeps, and of the states in it.
use Rattle.std.specs.Prelude.{◌≡◌, ℕ, ℤ, pos, ◌≤ℤ◌, slice_index_or}
use Rattle.delay_measure.specs.declared.edge.Compensation.{Compensation}
use Rattle.delay_measure.specs.declared.edge.Edge.{Edge}
use Rattle.delay_measure.specs.declared.edge.Edge.TheVariants.{Sending, Receiving}
use Rattle.delay_measure.specs.declared.states.Exchange.{Exchange}
use Rattle.delay_measure.specs.declared.measurements.Measurements.{Measurements}
use Rattle.delay_measure.specs.declared.meter.Meter.{Meter}
use Rattle.delay_measure.specs.Table.{unused}
use Rattle.delay_measure.specs.declared.stamps.TheConstants.{MOST_COMPENSATION}

-- from 0 to a millisecond at both edges, in units of 2^-16 ns
pub record IsInRange (c : Compensation) : Type 0 where
  pub sending_low : pos 0 ≤ℤ c.sending
  pub sending_high : c.sending ≤ℤ pos MOST_COMPENSATION
  pub receiving_low : pos 0 ≤ℤ c.receiving
  pub receiving_high : c.receiving ≤ℤ pos MOST_COMPENSATION

-- at both edges it may be called and has one answer, from 0 to a millisecond in units of 2^-16 ns
pub record IsCompensation {C : Type 0} (pre : C → Edge → Type 0) (post : C → Edge → ℤ → Type 0) (comp : C) : Type 0 where
  pub callable : (e : Edge) → pre comp e
  pub one : (e : Edge) (v w : ℤ) → post comp e v → post comp e w → v ≡ w
  pub low : (e : Edge) (v : ℤ) → post comp e v → pos 0 ≤ℤ v
  pub high : (e : Edge) (v : ℤ) → post comp e v → v ≤ℤ pos MOST_COMPENSATION

-- the answers of a unit with these compensations
abbrev pub answer_at : ℤ → ℤ → Edge → ℤ
answer_at sending receiving Sending = sending
answer_at sending receiving Receiving = receiving

-- the closure that a meter keeps
abbrev pub comp_of : {C : Type 0} → Meter C → C
comp_of meter = meter.comp

-- the closure that is kept may be called at both edges, with one answer that is in range
abbrev pub IsKept : {C : Type 0} → (C → Edge → Type 0) → (C → Edge → ℤ → Type 0) → Meter C → Type 0
IsKept pre post meter = IsCompensation pre post (comp_of meter)

-- the own state and the peer state of a measurement id
abbrev pub exchange_at : Measurements → ℕ → Exchange
exchange_at ms id = slice_index_or ms.exchanges id unused

abbrev pub exchange_of : {C : Type 0} → Meter C → ℕ → Exchange
exchange_of meter id = exchange_at meter.measurements id
