-- The order in which symbols are told: by their starts, and at one tick by endpoint, slot and symbol (this project's profile).
use Rattle.std.specs.Prelude.{ℕ, Bool, ◌&&◌, ◌||◌, ◌==◌, nat_lt, int_lt}
use Rattle.std.specs.Ordering.{int_eq}
use Rattle.fh_base.specs.declared.values.Slot.{Slot}
use Rattle.unit_model.specs.Claims.{same_slot}
use Rattle.unit_model.specs.declared.symbol_start.SymbolStart.{SymbolStart}

-- the slot is an earlier one
abbrev pub slot_before : Slot → Slot → Bool
slot_before a b =
    int_lt a.frame b.frame || (int_eq a.frame b.frame
    && (nat_lt a.subframe b.subframe || ((a.subframe == b.subframe) && nat_lt a.slot b.slot)))

-- of one endpoint, the symbol is an earlier one
abbrev pub symbol_before : Slot → ℕ → Slot → ℕ → Bool
symbol_before a x b y = slot_before a b || (same_slot a b && nat_lt x y)

-- the symbol is told before the other
abbrev pub comes_before : SymbolStart → SymbolStart → Bool
comes_before a b =
    int_lt a.start.0 b.start.0 || (int_eq a.start.0 b.start.0
    && (nat_lt a.ep b.ep || ((a.ep == b.ep) && symbol_before a.slot a.symbol b.slot b.symbol)))
