-- The uplink sections of a slot.
use Rattle.std.specs.Prelude.{ℕ, ◌==◌, ◌&&◌, Bool}
use Rattle.fh_base.specs.declared.values.Slot.{Slot}
use Rattle.unit_model.specs.Claims.{same_slot}
use Rattle.unit_model.specs.Commands.{is_uplink}
use Rattle.unit_model.specs.declared.allocations.Allocation.{Allocation}

-- an uplink section of this endpoint's slot
abbrev pub is_uplink_of : ℕ → Slot → Allocation → Bool
is_uplink_of ep slot a = is_uplink a && ((a.ep == ep) && same_slot a.slot slot)
