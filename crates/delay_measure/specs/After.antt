-- The exchanges of a meter after everything that it was told.
use Rattle.std.specs.Prelude.{◌≡◌, ℕ, ℤ, ◌==◌, ◌<◌, List, [], ◌∷◌, if◌then◌else◌}
use Rattle.delay_measure.specs.declared.message.DelayMessage.{DelayMessage}
use Rattle.delay_measure.specs.declared.states.Exchange.{Exchange}
use Rattle.delay_measure.specs.declared.steps.Kind.{Kind}
use Rattle.delay_measure.specs.declared.measurements.Measurements.{Measurements}
use Rattle.delay_measure.specs.declared.meter.Meter.{Meter}
use Rattle.delay_measure.specs.Stamps.{sending_stamp, receiving_stamp}
use Rattle.delay_measure.specs.Table.{unused, after_begin, after_message}
use Rattle.delay_measure.specs.Kept.{exchange_at}

-- what a meter is told: to begin with an id, a message, or to forget an id; begins and messages at a time in ticks
pub data Told : Type 0 where
  begins : ℤ → ℕ → Kind → Told
  comes : ℤ → DelayMessage → Told
  forgets : ℕ → Told

-- what one of them makes of the exchange of its id, with compensations s at sending and r at receiving
abbrev pub exchange_next : ℤ → ℤ → Told → Exchange → Exchange
exchange_next s r (begins t id kind) e = (after_begin e kind id (sending_stamp t s)).0
exchange_next s r (comes t m) e = (after_message e m (sending_stamp t s) (receiving_stamp t r)).0
exchange_next s r (forgets id) e = unused

-- the id that it is about
abbrev pub id_of : Told → ℕ
id_of (begins t id kind) = id
id_of (comes t m) = m.id
id_of (forgets id) = id

-- the exchange of an id after all of them, the newest first
abbrev pub exchange_after : ℤ → ℤ → List Told → ℕ → Exchange
exchange_after s r [] id = unused
exchange_after s r (one ∷ earlier) id =
    if id_of one == id then exchange_next s r one (exchange_after s r earlier id) else exchange_after s r earlier id

-- each exchange is the one after all that was told
abbrev pub AreAfter : ℤ → ℤ → List Told → Measurements → Type 0
AreAfter s r told ms = (id : ℕ) → id < 256 → exchange_at ms id ≡ exchange_after s r told id

-- so is each of the meter
abbrev pub StandsFor : {C : Type 0} → ℤ → ℤ → Meter C → List Told → Type 0
StandsFor s r meter told = AreAfter s r told meter.measurements
