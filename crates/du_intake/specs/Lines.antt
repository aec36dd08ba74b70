-- The uplink lines that the unit keeps, and what they claim (the fields are those of O-RAN.WG4.CUS, C-plane sections).
use Rattle.std.specs.Prelude.{◌≡◌, ℕ, Bool, false, ◌&&◌, ◌||◌, ◌==◌, nat_lt, if◌then◌else◌, ◌<◌, List, [], ◌∷◌, filter, slice_get, Option, Some, None}
use Rattle.fh_base.specs.declared.values.Slot.{Slot}
use Rattle.unit_model.specs.Claims.{first_prb, in_mask, is_from, prb_count, same_slot}
use Rattle.unit_model.specs.Order.{slot_before}
use Rattle.unit_model.specs.declared.allocations.Allocation.{Allocation}
use Rattle.unit_model.specs.declared.cells.Cell.{Cell}
use Rattle.unit_model.specs.declared.cells.Claim.{Claim}
use Rattle.du_intake.specs.declared.lines.UplinkLine.{UplinkLine}

-- what is kept of what a line of a plan names
abbrev pub line_of : Allocation → UplinkLine
line_of a = record {
  ep = a.ep;
  slot = a.slot;
  first_prb = first_prb a;
  prbs = prb_count a;
  mask = a.mask;
  section = a.section;
  symbol = a.symbol;
  num_symbol = a.num_symbol;
}

-- ---- slots of endpoints

-- the line is of this endpoint and slot
abbrev pub is_home : ℕ → Slot → UplinkLine → Bool
is_home ep slot l = (l.ep == ep) && same_slot l.slot slot

abbrev pub same_home : UplinkLine → UplinkLine → Bool
same_home a b = is_home b.ep b.slot a

-- the slot of the first is before that of the other: by endpoint, and of one endpoint by slot
abbrev pub home_before : UplinkLine → UplinkLine → Bool
home_before a b = nat_lt a.ep b.ep || ((a.ep == b.ep) && slot_before a.slot b.slot)

-- the lines of this endpoint and slot
abbrev pub lines_at : ℕ → Slot → List UplinkLine → List UplinkLine
lines_at ep slot ls = filter (is_home ep slot) ls

-- none is after one of a later slot
abbrev pub AreLinesInOrder : List UplinkLine → Type 0
AreLinesInOrder ls = (i j : ℕ) (p q : UplinkLine) → i < j → slice_get ls i ≡ Some p → slice_get ls j ≡ Some q → home_before q p ≡ false

-- ---- claims

-- the line names cells of the symbol
abbrev pub has_symbol : ℕ → UplinkLine → Bool
has_symbol symbol l = is_from l.symbol l.num_symbol symbol

-- of a cell of its slot, it names element `re`
abbrev pub names_in : UplinkLine → ℕ → ℕ → ℕ → Bool
names_in l symbol prb re = (has_symbol symbol l && is_from l.first_prb l.prbs prb) && in_mask l.mask re

-- the claim of the lines of one slot on element `re` of the cell of a symbol at a PRB: of the first that names it
unfoldable pub claim_in_slot : List UplinkLine → ℕ → ℕ → ℕ → Option Claim
claim_in_slot [] symbol prb re = None
claim_in_slot (l ∷ ls) symbol prb re =
    if names_in l symbol prb re then Some (record { id = l.section; idle = false }) else claim_in_slot ls symbol prb re

-- the claim of all lines on element `re` of an uplink cell
abbrev pub claim_by : List UplinkLine → Cell → ℕ → Option Claim
claim_by ls cell re = claim_in_slot (lines_at cell.ep cell.slot ls) cell.symbol cell.prb re
