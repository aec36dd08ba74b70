-- What is kept of one slot of an endpoint, and what it answers of a cell.
use Rattle.std.specs.Prelude.{◌≡◌, ℕ, ◌+◌, ◌*◌, Bool, true, false, not, ◌==◌, ◌&&◌, if◌then◌else◌, List, [], get_or, Option, Some, None}
use Rattle.fh_base.specs.declared.values.Slot.{Slot}
use Rattle.unit_model.specs.Claims.{in_mask, same_slot}
use Rattle.unit_model.specs.Radiated.{used_mask}
use Rattle.unit_model.specs.declared.allocations.Allocation.{Allocation}
use Rattle.unit_model.specs.declared.cells.Block.{Block}
use Rattle.unit_model.specs.declared.cells.Cell.{Cell}
use Rattle.unit_model.specs.declared.cells.Claim.{Claim}
use Rattle.slot_rings.specs.declared.claims.CellClaims.{CellClaims}

-- the claims of a cell, as one section id and two masks of its elements: the claimed ones, and of these the idle ones
abbrev pub claim_in : CellClaims → ℕ → Option Claim
claim_in m re = if in_mask m.claimed re then Some (record { id = m.id; idle = in_mask m.idle re }) else None

-- a cell of which nothing is claimed
abbrev pub no_claims : CellClaims
no_claims = record { id = 0; claimed = 0; idle = 0; reported = false }

-- whether the cell with a number was reported
abbrev pub is_reported : List CellClaims → ℕ → Bool
is_reported claims k = (get_or claims k no_claims).reported

-- the claims of a cell, reported or not
abbrev pub unreported : CellClaims → CellClaims
unreported m = record m { reported = false }

-- What a place of the ring keeps: whose slot it is, and of that slot the claims of both directions with which downlink cells were
-- reported, the blocks of the downlink, and the accepted uplink sections, the newest first. A list may end early: what it does
-- not reach is as nothing.
pub record PlaceValue : Type 0 where
  pub slot : Option Slot
  -- of a symbol: its lists hold the cells of 14 symbols without asking for memory
  pub prbs : ℕ
  pub down : List CellClaims
  pub up : List CellClaims
  pub blocks : List (Option Block)
  pub uplink : List Allocation

-- a place that keeps nothing
abbrev pub empty_place : Option Slot → ℕ → PlaceValue
empty_place slot prbs = record { slot = slot; prbs = prbs; down = []; up = []; blocks = []; uplink = [] }

abbrev pub blank : PlaceValue
blank = empty_place None 0

-- the number of a cell in its slot, on a carrier of so many PRBs
abbrev pub cell_number : ℕ → ℕ → ℕ → ℕ
cell_number prbs symbol prb = symbol * prbs + prb

abbrev pub is_place_of : Option Slot → Slot → Bool
is_place_of None slot = false
is_place_of (Some s) slot = same_slot s slot

-- nothing is kept of any cell, and no uplink section
pub record IsWiped (p : PlaceValue) : Type 0 where
  pub down : (k : ℕ) → get_or p.down k no_claims ≡ no_claims
  pub up : (k : ℕ) → get_or p.up k no_claims ≡ no_claims
  pub blocks : (k : ℕ) → get_or p.blocks k None ≡ None
  pub uplink : p.uplink ≡ []

-- a place before and after it was given to a slot: it forgets what it kept of another one
pub record IsOpened (s : Slot) (old new : PlaceValue) : Type 0 where
  pub slot : new.slot ≡ Some s
  pub prbs : new.prbs ≡ old.prbs
  pub own : is_place_of old.slot s ≡ true → new ≡ old
  pub other : is_place_of old.slot s ≡ false → IsWiped new

abbrev pub claims_of : PlaceValue → Bool → List CellClaims
claims_of p down = if down then p.down else p.up

-- the same for a slot that has the place or has not
abbrev pub claims_seen : PlaceValue → Slot → Bool → List CellClaims
claims_seen p slot down = if is_place_of p.slot slot then claims_of p down else []

abbrev pub blocks_seen : PlaceValue → Slot → List (Option Block)
blocks_seen p slot = if is_place_of p.slot slot then p.blocks else []

-- the claims on the cells of one slot and direction, as its place keeps them
abbrev pub claims_in : ℕ → List CellClaims → Cell → ℕ → Option Claim
claims_in prbs claims cell re = claim_in (get_or claims (cell_number prbs cell.symbol cell.prb) no_claims) re

abbrev pub place_claim : ℕ → PlaceValue → Cell → ℕ → Option Claim
place_claim prbs p cell re =
    if is_place_of p.slot cell.slot then claim_in (get_or (claims_of p cell.down) (cell_number prbs cell.symbol cell.prb) no_claims) re else None

abbrev pub place_block : ℕ → PlaceValue → Cell → Option Block
place_block prbs p cell =
    if is_place_of p.slot cell.slot then get_or p.blocks (cell_number prbs cell.symbol cell.prb) None else None

abbrev pub place_reported : ℕ → PlaceValue → Cell → Bool
place_reported prbs p cell =
    if is_place_of p.slot cell.slot then is_reported p.down (cell_number prbs cell.symbol cell.prb) else false

abbrev pub place_uplink : PlaceValue → Slot → List Allocation
place_uplink p slot = if is_place_of p.slot slot then p.uplink else []

-- an element of the cell is in use
abbrev pub is_in_use : (ℕ → Option Claim) → Bool
is_in_use claims = not (used_mask claims == 0)

-- and the cell was not reported
abbrev pub is_due : (ℕ → Option Claim) → Bool → Bool
is_due claims reported = is_in_use claims && not reported
