-- What a unit has to look up: verdicts, messages and reports rest on the cells that a section covers, and on one slot's sections.
use Rattle.std.specs.Prelude.{◌≡◌, ℕ, ℤ, ◌<◌, true, List, length, Option, is_some}
use Rattle.std.specs.List.{list_any}
use Rattle.fh_base.specs.declared.values.Slot.{Slot}
use Rattle.unit_model.specs.Terms.{AirCell, Side, is_down}
use Rattle.window_config.specs.declared.config.Config.{Config}
use Rattle.window_config.specs.declared.endpoints.EndpointConfig.{EndpointConfig}
use Rattle.unit_model.specs.Blocks.{block_at, data_covers, every_data_cell, has_all}
use Rattle.unit_model.specs.Claims.{claim_at, covers, every_cell, is_claimed, is_overlapped, overlaps, repeats, some_cell}
use Rattle.unit_model.specs.Commands.{uplink_in}
use Rattle.unit_model.specs.Proper.{IsProperAllocation}
use Rattle.unit_model.specs.Radiated.{air_cell}
use Rattle.unit_model.specs.Standing.{IsCell, cell_heard, is_reported, uplink_of}
use Rattle.unit_model.specs.Uplink.{symbol_jobs}
use Rattle.unit_model.specs.declared.allocations.Allocation.{Allocation}
use Rattle.unit_model.specs.declared.cells.Block.{Block}
use Rattle.unit_model.specs.declared.cells.Cell.{Cell}
use Rattle.unit_model.specs.declared.cells.Claim.{Claim}
use Rattle.unit_model.specs.declared.decoded.UserSection.{UserSection}

-- the cells that a section covers are cells of the configuration
abbrev pub CoveredAreCells : Type 0
CoveredAreCells = (c : Config) (a : Allocation) (cell : Cell) → IsProperAllocation c.endpoints a → covers a cell ≡ true → IsCell c a.endpoint cell

-- these claims are those of the elements that an allocation covers
abbrev pub ClaimsAgree : Allocation → (Cell → ℕ → Option Claim) → List Allocation → Type 0
ClaimsAgree a claims earlier = (cell : Cell) (re : ℕ) → covers a cell ≡ true → re < 12 → claims cell re ≡ claim_at earlier cell re

-- then it is a repeat, or overlaps, where these claims say so
abbrev pub RepeatsByLookup : Type 0
RepeatsByLookup =
    (a : Allocation) (claims : Cell → ℕ → Option Claim) (earlier : List Allocation) → ClaimsAgree a claims earlier
    → every_cell a (λ cell. is_claimed a.section a.mask (claims cell)) ≡ repeats earlier a

abbrev pub OverlapsByLookup : Type 0
OverlapsByLookup =
    (a : Allocation) (claims : Cell → ℕ → Option Claim) (earlier : List Allocation) → ClaimsAgree a claims earlier
    → some_cell a (λ cell. is_overlapped a.section a.mask (claims cell)) ≡ overlaps earlier a

-- and data have all their blocks where the blocks of the cells that they cover say so
abbrev pub HasAllByLookup : Type 0
HasAllByLookup =
    (x : UserSection) (blocks : Cell → Option Block) (earlier : List UserSection)
    → ((cell : Cell) → data_covers x cell ≡ true → blocks cell ≡ block_at earlier cell)
    → every_data_cell x (λ cell. is_some (blocks cell)) ≡ has_all earlier x

-- the uplink sections of a slot tell how many there are, and what is sent of its symbols
abbrev pub UplinkIsCounted : Type 0
UplinkIsCounted = (ep : ℕ) (slot : Slot) (earlier : List Allocation) → uplink_in ep slot earlier ≡ length (uplink_of ep slot earlier)

abbrev pub JobsAreOfTheirSlot : Type 0
JobsAreOfTheirSlot =
    (earlier : List Allocation) (ep : ℕ) (e : EndpointConfig) (slot : Slot) (symbol : ℕ)
    → symbol_jobs earlier ep e slot symbol ≡ symbol_jobs (uplink_of ep slot earlier) ep e slot symbol

-- a cell of the unit's direction was reported where one answer for it says so
abbrev pub ReportedByLookup : Type 0
ReportedByLookup =
    (side : Side) (e : EndpointConfig) (cell : Cell) (start : ℤ) (claims : ℕ → Option Claim) (block : Option Block) (heard : List AirCell)
    → cell.down ≡ is_down side → is_reported heard (air_cell side e cell start claims block) ≡ list_any (cell_heard e cell) heard
