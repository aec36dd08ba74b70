-- What a ring of one place knows of the slot that is judged (this project's means).
use Rattle.std.specs.Prelude.{◌≡◌, ℕ, ◌<◌, true, List, length}
use Rattle.fh_base.specs.declared.values.Slot.{Slot}
use Rattle.window_config.specs.declared.endpoints.EndpointConfig.{EndpointConfig}
use Rattle.unit_model.specs.Claims.{claim_at}
use Rattle.unit_model.specs.Commands.{uplink_in}
use Rattle.unit_model.specs.declared.allocations.Allocation.{Allocation}
use Rattle.unit_model.specs.declared.cells.Cell.{Cell}
use Rattle.slot_rings.specs.Rings.{RingValue, IsRingCell, has_slot, ring_claim, ring_uplink}

-- the ring has one place, which is that of the slot, and claims and uplink sections are those of these lines
pub record Knows (e : EndpointConfig) (ep : ℕ) (slot : Slot) (r : RingValue) (earlier : List Allocation) : Type 0 where
  pub endpoint : r.endpoint ≡ e
  pub one : length r.places ≡ 1
  pub has : has_slot r slot ≡ true
  pub claims : (cell : Cell) (re : ℕ) → IsRingCell r cell → cell.ep ≡ ep → cell.slot ≡ slot → re < 12 → ring_claim r cell re ≡ claim_at earlier cell re
  pub uplink : length (ring_uplink r slot) ≡ uplink_in ep slot earlier
