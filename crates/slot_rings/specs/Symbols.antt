-- The downlink cells of a symbol that a ring lends, and what they answer.
use Rattle.std.specs.Prelude.{◌≡◌, ℕ, ◌<◌, ◌≤◌, Bool, true, false, get_or, Option}
use Rattle.fh_base.specs.declared.values.Slot.{Slot}
use Rattle.unit_model.specs.Claims.{cell_at}
use Rattle.unit_model.specs.declared.cells.Block.{Block}
use Rattle.unit_model.specs.declared.cells.Claim.{Claim}
use Rattle.slot_rings.specs.Blocks.{block_lent}
use Rattle.slot_rings.specs.Places.{claim_in, is_in_use, is_reported, no_claims}
use Rattle.slot_rings.specs.Rings.{RingValue, ring_block, ring_claim, ring_reported}
use Rattle.slot_rings.specs.declared.symbol_cells.SymbolCells.{SymbolCells}

-- ---- what they answer of the cell at a PRB

abbrev pub lent_claim : SymbolCells → ℕ → ℕ → Option Claim
lent_claim cells prb re = claim_in (get_or cells.claims.now prb no_claims) re

abbrev pub lent_block : SymbolCells → ℕ → Option Block
lent_block cells prb = block_lent cells.blocks prb

abbrev pub lent_reported : SymbolCells → ℕ → Bool
lent_reported cells prb = is_reported cells.claims.now prb

-- these are the downlink cells of a symbol
pub record AreCellsOf (r : RingValue) (slot : Slot) (symbol : ℕ) (cells : SymbolCells) : Type 0 where
  pub claims : (ep prb re : ℕ) → lent_claim cells prb re ≡ ring_claim r (cell_at ep true slot symbol prb) re
  pub blocks : (ep prb : ℕ) → lent_block cells prb ≡ ring_block r (cell_at ep true slot symbol prb)
  pub reported : (ep prb : ℕ) → lent_reported cells prb ≡ ring_reported r (cell_at ep true slot symbol prb)
  pub within : cells.span.end ≤ r.endpoint.prbs
  pub unused : (prb : ℕ) → prb < r.endpoint.prbs → (cells.span.first ≤ prb → cells.span.end ≤ prb) → is_in_use (lent_claim cells prb) ≡ false
