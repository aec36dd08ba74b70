-- How the rings relate to what a unit makes of its arrivals: they answer for slots that are live, and hold nothing of slots
-- that no message can name yet.
use Rattle.std.specs.Prelude.{◌≡◌, ℕ, ℤ, ◌<◌, true, List, All}
use Rattle.fh_base.specs.declared.values.Slot.{Slot}
use Rattle.unit_model.specs.Terms.{Side, is_down}
use Rattle.window_config.specs.declared.config.Config.{Config}
use Rattle.window_config.specs.declared.endpoints.EndpointConfig.{EndpointConfig}
use Rattle.unit_model.specs.Claims.{claim_at}
use Rattle.unit_model.specs.Proper.{IsAt, IsSlot}
use Rattle.unit_model.specs.Standing.{IsCell, uplink_of}
use Rattle.unit_model.specs.declared.allocations.Allocation.{Allocation}
use Rattle.unit_model.specs.declared.cells.Cell.{Cell}
use Rattle.unit_model.specs.declared.decoded.UserSection.{UserSection}
use Rattle.unit_laws.specs.Far.{IsReached, IsReachedData, WasLive}
use Rattle.unit_cells.specs.Cells.{CellsValue, IsOf, cells_block, cells_claim, cells_reported, cells_has, cells_index, cells_uplink}
use Rattle.unit_model.specs.Sides.{IsLiveFor, reach_of}
use Rattle.unit_cells.specs.Told.{told_block_at}

-- The rings keep what these accepted allocations claim and these data on time give, the newest of both first, which were received by
-- the clock.
pub record Keeps (side : Side) (c : Config) (clock : ℤ) (v : CellsValue) (acc : List Allocation) (ds : List UserSection) : Type 0 where
  pub claims : (e : EndpointConfig) (cell : Cell) (re : ℕ) → IsCell c e cell → IsLiveFor side c clock cell.ep cell.slot → re < 12
      → cells_claim v cell re ≡ claim_at acc cell re
  pub blocks : (e : EndpointConfig) (cell : Cell) → IsCell c e cell → cell.down ≡ is_down side → IsLiveFor side c clock cell.ep cell.slot
      → cells_block v cell ≡ told_block_at ds cell
  pub uplink : (e : EndpointConfig) (ep : ℕ) (slot : Slot) → IsAt c.endpoints ep e → IsSlot e.numerology slot → IsLiveFor side c clock ep slot
      → cells_uplink v ep slot ≡ uplink_of ep slot acc
  -- each slot that has its place, and each that is named, began to be live by the clock
  pub reached : (e : EndpointConfig) (ep : ℕ) (slot : Slot) → IsAt c.endpoints ep e → cells_has v ep slot ≡ true
      → WasLive e.numerology (reach_of side c.delays) clock slot
  pub accepted : All (IsReached c.endpoints (reach_of side c.delays) clock) acc
  pub timely : All (IsReachedData c.endpoints (reach_of side c.delays) clock) ds

-- of the cells of live slots, the same ones are set as reported
abbrev pub SameReported : Side → Config → ℤ → CellsValue → CellsValue → Type 0
SameReported side c clock old new =
    (e : EndpointConfig) (cell : Cell) → IsCell c e cell → IsLiveFor side c clock cell.ep cell.slot → cells_reported new cell ≡ cells_reported old cell

-- the same is known of all cells and slots, what is reported aside
pub record SameKnown (old new : CellsValue) : Type 0 where
  pub claims : (cell : Cell) (re : ℕ) → cells_claim new cell re ≡ cells_claim old cell re
  pub blocks : (cell : Cell) → cells_block new cell ≡ cells_block old cell
  pub uplink : (ep : ℕ) (slot : Slot) → cells_uplink new ep slot ≡ cells_uplink old ep slot
  pub places : (ep : ℕ) (slot : Slot) → cells_has new ep slot ≡ cells_has old ep slot

-- ---- places

-- two slots of an endpoint that are live have two places
abbrev pub LiveAreApart : CellsValue → Type 0
LiveAreApart v =
    (side : Side) (c : Config) (clock : ℤ) (e : EndpointConfig) (ep : ℕ) (a b : Slot) → IsOf side c v → IsAt c.endpoints ep e → IsSlot e.numerology a → IsSlot e.numerology b
    → IsLiveFor side c clock ep a → IsLiveFor side c clock ep b → cells_index v ep a ≡ cells_index v ep b → a ≡ b
