-- What a call does to the ring of one endpoint, and so to all rings.
use Rattle.std.specs.Prelude.{◌≡◌, ℕ, ◌+◌, ◌<◌, ◌≤◌, ◌||◌, true, false, List, length, set, Some}
use Rattle.bfp_codec.specs.declared.samples.Wide.{Wide}
use Rattle.fh_base.specs.declared.values.Slot.{Slot}
use Rattle.unit_model.specs.Claims.{cell_at, is_from}
use Rattle.fh_base.specs.Lists.{or_else}
use Rattle.unit_model.specs.declared.allocations.Allocation.{Allocation}
use Rattle.unit_model.specs.declared.cells.Cell.{Cell}
use Rattle.unit_model.specs.declared.verdicts.CommandVerdict.{CommandVerdict}
use Rattle.slot_rings.specs.Places.{is_in_use}
use Rattle.slot_rings.specs.Rings.{IsRingCell, RingValue, SameBlocks, SameClaims, SameSlotReported, SameUplink, TouchesOnly, has_slot, ring_block, ring_claim, ring_reported, ring_uplink}
use Rattle.slot_rings.specs.Runs.{packed_block}
use Rattle.slot_rings.specs.Verdicts.{claim_after, uplink_after, verdict_by}
use Rattle.unit_cells.specs.Cells.{CellsValue, ring_of}

-- an accepted allocation is claimed in its slot
pub record Claims (a : Allocation) (v : CommandVerdict) (old new : RingValue) : Type 0 where
  pub claims : (cell : Cell) (re : ℕ) → IsRingCell old cell → cell.ep ≡ a.ep → cell.slot ≡ a.slot → re < 12
      → ring_claim new cell re ≡ claim_after v a cell re (ring_claim old cell re)
  pub uplink : ring_uplink new a.slot ≡ uplink_after v a (ring_uplink old a.slot)
  pub has : has_slot new a.slot ≡ true
  pub blocks : SameBlocks a.slot old new
  pub reported : SameSlotReported a.slot old new
  pub touches : TouchesOnly a.slot old new

-- and it was judged by what was claimed before
pub record Takes (a : Allocation) (v : CommandVerdict) (old new : RingValue) : Type 0 where
  pub verdict : v ≡ verdict_by (ring_claim old) (length (ring_uplink old a.slot)) a
  pub claims : Claims a v old new

-- downlink cells of a symbol, from one PRB on, have the blocks of a section with these samples, where they had none
pub record Fills (slot : Slot) (symbol first id : ℕ) (run : List (List Wide)) (old new : RingValue) : Type 0 where
  pub here : (ep k : ℕ) → k < length run
      → ring_block new (cell_at ep true slot symbol (first + k)) ≡ or_else (ring_block old (cell_at ep true slot symbol (first + k))) (Some (packed_block id run k))
  pub others : (cell : Cell) → IsRingCell old cell → cell.slot ≡ slot → (cell.symbol ≡ symbol → is_from first (length run) cell.prb ≡ false)
      → ring_block new cell ≡ ring_block old cell
  pub has : has_slot new slot ≡ true
  pub claims : SameClaims slot old new
  pub reported : SameSlotReported slot old new
  pub uplink : SameUplink slot old new
  pub touches : TouchesOnly slot old new

-- the downlink cells of a symbol that are in use at the first so many PRBs are set as reported
pub record SetsReported (slot : Slot) (symbol count : ℕ) (old new : RingValue) : Type 0 where
  pub here : (ep prb : ℕ) → prb < count → ring_reported new (cell_at ep true slot symbol prb)
      ≡ (ring_reported old (cell_at ep true slot symbol prb) || is_in_use (ring_claim old (cell_at ep true slot symbol prb)))
  pub others : (cell : Cell) → IsRingCell old cell → cell.slot ≡ slot → (cell.symbol ≡ symbol → count ≤ cell.prb) → ring_reported new cell ≡ ring_reported old cell
  pub has : has_slot new slot ≡ true
  pub claims : SameClaims slot old new
  pub blocks : SameBlocks slot old new
  pub uplink : SameUplink slot old new
  pub touches : TouchesOnly slot old new

-- the ring of one endpoint changes so, and no other
pub record InRing (ep : ℕ) (step : RingValue → RingValue → Type 0) (old new : CellsValue) : Type 0 where
  pub before : RingValue
  pub after : RingValue
  pub was : ring_of old ep ≡ Some before
  pub rings : new.rings ≡ set old.rings ep after
  pub side : new.side ≡ old.side
  pub delays : new.delays ≡ old.delays
  pub stepped : step before after
