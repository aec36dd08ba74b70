-- From which tick on the symbols of a ring may have cells to report: this project's means to look at no place in vain.
use Rattle.std.specs.Prelude.{◌≡◌, ℕ, ℤ, pos, ◌<◌, ◌≤ℤ◌, Bool, true, false, List, length, get_or, Option, Some, None}
use Rattle.fh_base.specs.Air.{air_of}
use Rattle.fh_base.specs.Numbering.{symbols_of}
use Rattle.fh_base.specs.declared.values.Slot.{Slot}
use Rattle.fh_base.specs.declared.values.Ticks.{Ticks}
use Rattle.unit_model.specs.Claims.{cell_at}
use Rattle.fh_base.specs.Lists.{some}
use Rattle.slot_rings.specs.Pending.{due_in}
use Rattle.slot_rings.specs.Places.{PlaceValue, blank, is_due}
use Rattle.slot_rings.specs.Rings.{RingValue, ring_claim, ring_reported}

-- a downlink cell of a symbol is in use, and was not reported
abbrev pub ring_due : RingValue → ℕ → Slot → ℕ → Bool
ring_due r ep slot symbol = some 0 r.endpoint.prbs (λ prb. is_due (ring_claim r (cell_at ep true slot symbol prb)) (ring_reported r (cell_at ep true slot symbol prb)))

-- of these slots, each symbol with such a cell starts at a tick or later: without a tick there is no such symbol
abbrev pub IsDueFrom : RingValue → (Slot → Type 0) → Option Ticks → Type 0
IsDueFrom r P None = (slot : Slot) (symbol ep : ℕ) → P slot → symbol < symbols_of r.endpoint.numerology → ring_due r ep slot symbol ≡ false
IsDueFrom r P (Some t) = (slot : Slot) (symbol ep : ℕ) → P slot → symbol < symbols_of r.endpoint.numerology → ring_due r ep slot symbol ≡ true
    → t.0 ≤ℤ air_of r.endpoint.numerology slot symbol

-- the tick of the place with an index
abbrev pub start_at : List Ticks → ℕ → ℤ
start_at starts i = (get_or starts i (record { 0 = pos 0 })).0

-- no place has an earlier one
abbrev pub IsLeast : List Ticks → ℤ → Type 0
IsLeast starts least = (i : ℕ) → i < length starts → least ≤ℤ start_at starts i

-- of the slot that has this place, each symbol with such a cell starts at a tick or later
abbrev pub StartsFrom : RingValue → PlaceValue → ℤ → Type 0
StartsFrom r p t = (symbol : ℕ) (slot : Slot) → p.slot ≡ Some slot → symbol < symbols_of r.endpoint.numerology → due_in r.endpoint.prbs p symbol ≡ true
    → t ≤ℤ air_of r.endpoint.numerology slot symbol

-- each place has such a tick
pub record HaveStarts (r : RingValue) (starts : List Ticks) : Type 0 where
  pub size : length starts ≡ length r.places
  pub each : (i : ℕ) → i < length r.places → StartsFrom r (get_or r.places i blank) (start_at starts i)
