-- The symbols in which something is claimed.
use Rattle.std.specs.Prelude.{◌≡◌, ℕ, ℤ, ◌+◌, ◌<◌, ◌≤◌, ◌<ℤ◌, ◌≤ℤ◌, ◌==◌, ◌&&◌, ◌||◌, Bool, false, if◌then◌else◌, List, [], ◌∷◌, Option, Some, None}
use Rattle.std.specs.Ordering.{int_eq}
use Rattle.fh_base.specs.declared.values.Slot.{Slot}
use Rattle.fh_base.specs.declared.values.Ticks.{Ticks}
use Rattle.fh_base.specs.Air.{air_of}
use Rattle.fh_base.specs.Numbering.{symbols_of}
use Rattle.unit_model.specs.Claims.{same_slot, same_way, is_from}
use Rattle.unit_model.specs.Proper.{IsSlot}
use Rattle.unit_model.specs.Sweeps.{OfSymbol}
use Rattle.unit_model.specs.declared.allocations.Allocation.{Allocation}
use Rattle.unit_model.specs.declared.symbol_start.SymbolStart.{SymbolStart}
use Rattle.unit_model.specs.Starts.{start_at}

-- an allocation of this direction is in a symbol
abbrev pub is_claimed_way : ℕ → Bool → Slot → ℕ → Allocation → Bool
is_claimed_way ep down slot symbol a =
    (a.ep == ep) && (same_way a.down down && (same_slot a.slot slot && is_from a.symbol a.num_symbol symbol))

-- one of these does
unfoldable pub is_claimed_in : List Allocation → ℕ → Bool → Slot → ℕ → Bool
is_claimed_in [] ep down slot symbol = false
is_claimed_in (a ∷ earlier) ep down slot symbol = is_claimed_way ep down slot symbol a || is_claimed_in earlier ep down slot symbol

-- one of these is of an endpoint and a frame, in whichever direction
abbrev pub is_of_frame : ℕ → ℤ → Allocation → Bool
is_of_frame ep frame a = (a.ep == ep) && int_eq a.slot.frame frame

unfoldable pub names_frame : List Allocation → ℕ → ℤ → Bool
names_frame [] ep frame = false
names_frame (a ∷ earlier) ep frame = is_of_frame ep frame a || names_frame earlier ep frame

-- a symbol, where something is claimed in it
abbrev pub claimed_start : List Allocation → Bool → OfSymbol SymbolStart
claimed_start accepted down ep e slot symbol = if is_claimed_in accepted ep down slot symbol then start_at ep e slot symbol ∷ [] else []

-- its symbols are ones of its endpoint, whose starts can be told
pub record HasStarts (a : Allocation) : Type 0 where
  pub slot : IsSlot a.endpoint.numerology a.slot
  pub within : a.symbol + a.num_symbol ≤ symbols_of a.endpoint.numerology

-- a start at or after a tick is not before the next one; where there is no next one, it is before the tick
abbrev pub IsNotMissed : ℤ → Option Ticks → ℤ → Type 0
IsNotMissed from None start = start <ℤ from
IsNotMissed from (Some next) start = from ≤ℤ start → next.0 ≤ℤ start

-- it holds of the start of each symbol of an allocation of this direction
abbrev pub OfEachSymbol : (ℤ → Type 0) → Bool → Allocation → Type 0
OfEachSymbol P down a = a.down ≡ down → (y : ℕ) → a.symbol ≤ y → y < a.symbol + a.num_symbol → P (air_of a.endpoint.numerology a.slot y)

-- no symbol of such an allocation starts from one tick on and before another
abbrev pub IsQuiet : ℤ → ℤ → Bool → Allocation → Type 0
IsQuiet from end down a = OfEachSymbol (λ start. from ≤ℤ start → end ≤ℤ start) down a
