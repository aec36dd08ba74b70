-- Cells, elements, and what sections claim of them (O-RAN.WG4.CUS, C-plane sections: startPrbc, numPrbc, reMask, numSymbol).
-- A cell is one PRB in one symbol of an endpoint, in one direction; an element is one of its twelve resource elements.
use Rattle.std.specs.Prelude.{ℕ, ◌+◌, ◌-◌, ◌/◌, ◌%◌, ◌^◌, Bool, false, not, ◌&&◌, ◌||◌, ◌==◌, nat_lt, nat_le, is_some, if◌then◌else◌, List, [], ◌∷◌, Option, Some, None}
use Rattle.std.specs.Ordering.{int_eq}
use Rattle.fh_base.specs.declared.values.Slot.{Slot}
use Rattle.fh_base.specs.Carrier.{first_of, count_of}
use Rattle.fh_base.specs.Lists.{every, some}
use Rattle.unit_model.specs.declared.allocations.Allocation.{Allocation}
use Rattle.unit_model.specs.declared.cells.Cell.{Cell}
use Rattle.unit_model.specs.declared.cells.Claim.{Claim}

abbrev pub same_slot : Slot → Slot → Bool
same_slot a b = int_eq a.frame b.frame && ((a.subframe == b.subframe) && (a.slot == b.slot))

abbrev pub same_way : Bool → Bool → Bool
same_way a b = if a then b else not b

-- a number is one of `count` numbers from `first` on
abbrev pub is_from : ℕ → ℕ → ℕ → Bool
is_from first count n = nat_le first n && nat_lt n (first + count)

-- the first PRB, and how many: numPrbc 0 means all of the carrier's
abbrev pub first_prb : Allocation → ℕ
first_prb a = first_of a.start_prb a.num_prb

abbrev pub prb_count : Allocation → ℕ
prb_count a = count_of a.endpoint.prbs a.num_prb

-- the cell is in its symbols and PRBs
abbrev pub covers : Allocation → Cell → Bool
covers a cell =
    (a.ep == cell.ep) && (same_way a.down cell.down && (same_slot a.slot cell.slot
    && (is_from a.symbol a.num_symbol cell.symbol && is_from (first_prb a) (prb_count a) cell.prb)))

-- the mask has element `re`: element 0 is the most significant of the 12 bits
abbrev pub in_mask : ℕ → ℕ → Bool
in_mask mask re = mask / 2 ^ (11 - re) % 2 == 1

abbrev pub names : Allocation → Cell → ℕ → Bool
names a cell re = covers a cell && in_mask a.mask re

-- the claim on an element of a cell, where these allocations were accepted, the newest first
abbrev pub claim_of : Allocation → Claim
claim_of a = record { id = a.section; idle = a.idle }

unfoldable pub claim_at : List Allocation → Cell → ℕ → Option Claim
claim_at [] cell re = None
claim_at (a ∷ earlier) cell re = if names a cell re then Some (claim_of a) else claim_at earlier cell re

-- ---- tests over the cells that an allocation covers

abbrev pub cell_at : ℕ → Bool → Slot → ℕ → ℕ → Cell
cell_at ep down slot symbol prb = record { ep = ep; down = down; slot = slot; symbol = symbol; prb = prb }

abbrev pub cell_of : Allocation → ℕ → ℕ → Cell
cell_of a symbol prb = cell_at a.ep a.down a.slot symbol prb

unfoldable pub every_cell : Allocation → (Cell → Bool) → Bool
every_cell a p = every a.symbol a.num_symbol (λ y. every (first_prb a) (prb_count a) (λ n. p (cell_of a y n)))

unfoldable pub some_cell : Allocation → (Cell → Bool) → Bool
some_cell a p = some a.symbol a.num_symbol (λ y. some (first_prb a) (prb_count a) (λ n. p (cell_of a y n)))

abbrev pub is_under : ℕ → Option Claim → Bool
is_under id None = false
is_under id (Some c) = c.id == id

abbrev pub is_other : ℕ → Option Claim → Bool
is_other id None = false
is_other id (Some c) = not (c.id == id)

-- each element that the mask names is claimed, under this id
abbrev pub is_claimed : ℕ → ℕ → (ℕ → Option Claim) → Bool
is_claimed id mask claims = every 0 12 (λ re. not (in_mask mask re) || is_under id (claims re))

-- an element that the mask names is claimed, or the cell is claimed under another id
abbrev pub is_overlapped : ℕ → ℕ → (ℕ → Option Claim) → Bool
is_overlapped id mask claims = some 0 12 (λ re. (in_mask mask re && is_some (claims re)) || is_other id (claims re))

unfoldable pub repeats : List Allocation → Allocation → Bool
repeats accepted a = every_cell a (λ cell. is_claimed a.section a.mask (claim_at accepted cell))

unfoldable pub overlaps : List Allocation → Allocation → Bool
overlaps accepted a = some_cell a (λ cell. is_overlapped a.section a.mask (claim_at accepted cell))
