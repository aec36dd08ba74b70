-- The places of an endpoint, and which slot belongs to which.
use Rattle.std.specs.Prelude.{◌≡◌, ℕ, pos, ◌<◌, ◌≤◌, Bool, false, List, [], length, get_or, set, Option, Some, None}
use Rattle.std.specs.Int.{int_rem_euclid, int_gap}
use Rattle.fh_base.specs.declared.values.Slot.{Slot}
use Rattle.fh_base.specs.Numbering.{slot_number, symbols_of}
use Rattle.window_config.specs.declared.endpoints.EndpointConfig.{EndpointConfig}
use Rattle.unit_model.specs.Proper.{IsSlot}
use Rattle.unit_model.specs.declared.allocations.Allocation.{Allocation}
use Rattle.unit_model.specs.declared.cells.Block.{Block}
use Rattle.unit_model.specs.declared.cells.Cell.{Cell}
use Rattle.unit_model.specs.declared.cells.Claim.{Claim}
use Rattle.slot_rings.specs.Places.{PlaceValue, blank, is_place_of, place_claim, place_block, place_reported, place_uplink}
use Rattle.fh_base.specs.declared.carrier.TheConstants.{CARRIER_PRBS}

pub record RingValue : Type 0 where
  pub endpoint : EndpointConfig
  pub places : List PlaceValue

-- the index of a slot's place: its number in the order of slots, modulo the number of places
abbrev pub place_index : RingValue → Slot → ℕ
place_index r slot = int_gap (pos 0) (int_rem_euclid (slot_number r.endpoint.numerology slot) (pos (length r.places)))

abbrev pub place_of : RingValue → Slot → PlaceValue
place_of r slot = get_or r.places (place_index r slot) blank

-- what the ring answers of a cell of its endpoint: nothing, where the place is another slot's
abbrev pub ring_claim : RingValue → Cell → ℕ → Option Claim
ring_claim r cell re = place_claim r.endpoint.prbs (place_of r cell.slot) cell re

abbrev pub ring_block : RingValue → Cell → Option Block
ring_block r cell = place_block r.endpoint.prbs (place_of r cell.slot) cell

abbrev pub ring_reported : RingValue → Cell → Bool
ring_reported r cell = place_reported r.endpoint.prbs (place_of r cell.slot) cell

abbrev pub ring_uplink : RingValue → Slot → List Allocation
ring_uplink r slot = place_uplink (place_of r slot) slot

-- the slot has its place
abbrev pub has_slot : RingValue → Slot → Bool
has_slot r slot = is_place_of (place_of r slot).slot slot

-- what every ring is
pub record IsRing (r : RingValue) : Type 0 where
  pub some : 0 < length r.places
  pub few : length r.places < 1024
  pub prbs_some : 0 < r.endpoint.prbs
  pub prbs_few : r.endpoint.prbs ≤ CARRIER_PRBS
  -- each place has room for all cells of a slot
  pub widths : (i : ℕ) → i < length r.places → (get_or r.places i blank).prbs ≡ r.endpoint.prbs
  -- and is that of its slot
  pub homes : (i : ℕ) (s : Slot) → i < length r.places → (get_or r.places i blank).slot ≡ Some s
      → IsSlot r.endpoint.numerology s × (place_index r s ≡ i)

-- nothing is known of any slot
pub record IsEmpty (r : RingValue) : Type 0 where
  pub claims : (cell : Cell) (re : ℕ) → ring_claim r cell re ≡ None
  pub blocks : (cell : Cell) → ring_block r cell ≡ None
  pub reported : (cell : Cell) → ring_reported r cell ≡ false
  pub uplink : (slot : Slot) → ring_uplink r slot ≡ []
  pub slots : (slot : Slot) → has_slot r slot ≡ false

-- two slots have one place
abbrev pub SharePlace : RingValue → Slot → Slot → Type 0
SharePlace r a b = place_index r a ≡ place_index r b

-- a cell of a slot that the ring may have
pub record IsRingCell (r : RingValue) (cell : Cell) : Type 0 where
  pub slot : IsSlot r.endpoint.numerology cell.slot
  pub symbol : cell.symbol < symbols_of r.endpoint.numerology
  pub prb : cell.prb < r.endpoint.prbs

-- a call changed nothing of the slots that do not share a place with this one
pub record TouchesOnly (slot : Slot) (old new : RingValue) : Type 0 where
  pub endpoint : new.endpoint ≡ old.endpoint
  pub size : length new.places ≡ length old.places
  pub others : (s : Slot) → (SharePlace old s slot → ⊥) → place_of new s ≡ place_of old s

-- a call left of this slot what is claimed, its blocks, what was reported, and its uplink sections
abbrev pub SameClaims : Slot → RingValue → RingValue → Type 0
SameClaims slot old new = (cell : Cell) (re : ℕ) → cell.slot ≡ slot → ring_claim new cell re ≡ ring_claim old cell re

abbrev pub SameBlocks : Slot → RingValue → RingValue → Type 0
SameBlocks slot old new = (cell : Cell) → cell.slot ≡ slot → ring_block new cell ≡ ring_block old cell

abbrev pub SameSlotReported : Slot → RingValue → RingValue → Type 0
SameSlotReported slot old new = (cell : Cell) → cell.slot ≡ slot → ring_reported new cell ≡ ring_reported old cell

abbrev pub SameUplink : Slot → RingValue → RingValue → Type 0
SameUplink slot old new = ring_uplink new slot ≡ ring_uplink old slot

-- the ring with another place for this slot
abbrev pub with_place : RingValue → Slot → PlaceValue → RingValue
with_place r slot p = record { endpoint = r.endpoint; places = set r.places (place_index r slot) p }
