-- What a section cannot have of a cell, by the claims on its elements.
use Rattle.std.specs.Prelude.{unsigned_abs, ℕ, ◌+◌, ◌*◌, ◌%◌, pos, Bool, ◌&&◌, ◌||◌, is_some, Option}
use Rattle.std.specs.Int.{int_rem_euclid}
use Rattle.fh_base.specs.declared.values.Slot.{Slot}
use Rattle.unit_model.specs.Claims.{in_mask, is_other}
use Rattle.unit_model.specs.Radiated.{cell_id}
use Rattle.unit_model.specs.declared.allocations.Allocation.{Allocation}
use Rattle.unit_model.specs.declared.cells.Claim.{Claim}

-- the element is claimed, and its mask names it or it is claimed under another id
abbrev pub is_clashing : Allocation → (ℕ → Option Claim) → ℕ → Bool
is_clashing a claims re = (in_mask a.mask re && is_some (claims re)) || is_other a.section (claims re)

-- the id under which the first claimed element is claimed
abbrev pub first_id : (ℕ → Option Claim) → ℕ
first_id claims = cell_id claims

-- ---- chains

-- the one of 2,048 chains in which the sections of a slot are kept
abbrev pub slot_chain : Slot → ℕ
slot_chain slot = (unsigned_abs (int_rem_euclid slot.frame (pos 16)) * 16 + slot.subframe % 16) * 8 + slot.slot % 8

abbrev pub allocation_chain : Allocation → ℕ
allocation_chain a = slot_chain a.slot
