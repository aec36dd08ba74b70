-- The rings of all endpoints of a unit, and what they answer of a cell.
use Rattle.std.specs.Prelude.{◌≡◌, ℕ, ℤ, pos, ◌+◌, ◌<◌, ◌≤◌, ◌+ℤ◌, ◌<ℤ◌, Bool, false, List, [], length, map, slice_get, Option, Some, None}
use Rattle.fh_base.specs.declared.values.Slot.{Slot}
use Rattle.fh_base.specs.Numbering.{IsSlotOf, slot_number, symbols_of}
use Rattle.unit_model.specs.Terms.{Side}
use Rattle.window_config.specs.Limits.{IsWithinLimits}
use Rattle.window_config.specs.declared.config.Config.{Config}
use Rattle.window_config.specs.declared.delays.Delays.{Delays}
use Rattle.window_config.specs.declared.endpoints.EndpointConfig.{EndpointConfig}
use Rattle.unit_model.specs.Proper.{IsAt, IsSlot}
use Rattle.unit_model.specs.declared.allocations.Allocation.{Allocation}
use Rattle.unit_model.specs.declared.cells.Block.{Block}
use Rattle.unit_model.specs.declared.cells.Cell.{Cell}
use Rattle.unit_model.specs.declared.cells.Claim.{Claim}
use Rattle.unit_model.specs.Sides.{IsLiveOn}
use Rattle.slot_rings.specs.Rings.{RingValue, has_slot, place_index, ring_block, ring_claim, ring_reported, ring_uplink}

-- the delays by which arrivals are judged, and the ring of each endpoint, by its index
pub record CellsValue : Type 0 where
  pub side : Side
  pub delays : Delays
  pub rings : List RingValue

abbrev pub endpoint_in : RingValue → EndpointConfig
endpoint_in r = r.endpoint

abbrev pub endpoints_of : CellsValue → List EndpointConfig
endpoints_of v = map endpoint_in v.rings

-- they are those of this unit and this configuration
pub record IsOf (side : Side) (c : Config) (v : CellsValue) : Type 0 where
  pub side_is : v.side ≡ side
  pub delays : v.delays ≡ c.delays
  pub endpoints : endpoints_of v ≡ c.endpoints

-- ---- lookups: those of the ring of the cell's endpoint

abbrev pub ring_of : CellsValue → ℕ → Option RingValue
ring_of v ep = slice_get v.rings ep

abbrev pub claim_from : Option RingValue → Cell → ℕ → Option Claim
claim_from None cell re = None
claim_from (Some r) cell re = ring_claim r cell re

abbrev pub block_from : Option RingValue → Cell → Option Block
block_from None cell = None
block_from (Some r) cell = ring_block r cell

abbrev pub reported_from : Option RingValue → Cell → Bool
reported_from None cell = false
reported_from (Some r) cell = ring_reported r cell

abbrev pub uplink_from : Option RingValue → Slot → List Allocation
uplink_from None slot = []
uplink_from (Some r) slot = ring_uplink r slot

abbrev pub has_from : Option RingValue → Slot → Bool
has_from None slot = false
has_from (Some r) slot = has_slot r slot

abbrev pub index_from : Option RingValue → Slot → ℕ
index_from None slot = 0
index_from (Some r) slot = place_index r slot

-- the claim on an element of a cell
abbrev pub cells_claim : CellsValue → Cell → ℕ → Option Claim
cells_claim v cell re = claim_from (ring_of v cell.ep) cell re

-- the block of a downlink cell
abbrev pub cells_block : CellsValue → Cell → Option Block
cells_block v cell = block_from (ring_of v cell.ep) cell

-- whether a downlink cell was reported
abbrev pub cells_reported : CellsValue → Cell → Bool
cells_reported v cell = reported_from (ring_of v cell.ep) cell

-- the accepted uplink sections of a slot, the newest first
abbrev pub cells_uplink : CellsValue → ℕ → Slot → List Allocation
cells_uplink v ep slot = uplink_from (ring_of v ep) slot

-- whether a slot of an endpoint has its place, and the index of that place
abbrev pub cells_has : CellsValue → ℕ → Slot → Bool
cells_has v ep slot = has_from (ring_of v ep) slot

abbrev pub cells_index : CellsValue → ℕ → Slot → ℕ
cells_index v ep slot = index_from (ring_of v ep) slot

-- ---- what they always are

-- slots that are live at one time are less than all places apart
abbrev pub HoldsLive : Side → Delays → RingValue → Type 0
HoldsLive side d r =
    (clock : ℤ) (a b : Slot) → IsSlotOf r.endpoint.numerology a → IsSlotOf r.endpoint.numerology b
    → IsLiveOn side d r.endpoint clock a → IsLiveOn side d r.endpoint clock b
    → slot_number r.endpoint.numerology b <ℤ (slot_number r.endpoint.numerology a +ℤ pos (length r.places))

pub record AreRings (v : CellsValue) : Type 0 where
  pub limits : IsWithinLimits v.delays
  pub wide : (ep : ℕ) (r : RingValue) → ring_of v ep ≡ Some r → HoldsLive v.side v.delays r

-- ---- what calls name

-- a cell of the endpoint with its index
pub record IsCellIn (v : CellsValue) (cell : Cell) : Type 0 where
  pub endpoint : EndpointConfig
  pub at : IsAt (endpoints_of v) cell.ep endpoint
  pub slot_is : IsSlot endpoint.numerology cell.slot
  pub symbol : cell.symbol < symbols_of endpoint.numerology
  pub prb : cell.prb < endpoint.prbs

-- so many cells of a symbol, from PRB `first` on
pub record AreCellsIn (v : CellsValue) (ep : ℕ) (slot : Slot) (symbol first count : ℕ) : Type 0 where
  pub endpoint : EndpointConfig
  pub at : IsAt (endpoints_of v) ep endpoint
  pub slot_is : IsSlot endpoint.numerology slot
  pub symbol_is : symbol < symbols_of endpoint.numerology
  pub prbs : first + count ≤ endpoint.prbs
