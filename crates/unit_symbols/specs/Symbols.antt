-- A symbol of a unit's rings, and the first of those that are looked for, by look-up (this project's profile).
use Rattle.std.specs.Prelude.{◌≡◌, ℕ, ◌<◌, ◌≤ℤ◌, Bool, true, false, Option, Some, None}
use Rattle.fh_base.specs.Air.{air_of}
use Rattle.fh_base.specs.Numbering.{symbols_of}
use Rattle.fh_base.specs.declared.values.Slot.{Slot}
use Rattle.fh_base.specs.declared.values.Ticks.{Ticks}
use Rattle.unit_model.specs.Order.{comes_before}
use Rattle.unit_model.specs.Proper.{IsAt, IsSlot}
use Rattle.unit_model.specs.declared.symbol_start.SymbolStart.{SymbolStart}
use Rattle.unit_cells.specs.Cells.{CellsValue, cells_has, endpoints_of}

-- a symbol of one of the endpoints, in a slot that has its place
pub record IsSymbol (v : CellsValue) (m : SymbolStart) : Type 0 where
  pub at : IsAt (endpoints_of v) m.ep m.endpoint
  pub slot_is : IsSlot m.endpoint.numerology m.slot
  pub symbol_is : m.symbol < symbols_of m.endpoint.numerology
  pub starts : m.start.0 ≡ air_of m.endpoint.numerology m.slot m.symbol
  pub has : cells_has v m.ep m.slot ≡ true

-- one of those that are looked for
pub record IsFitting (v : CellsValue) (fits : SymbolStart → Bool) (m : SymbolStart) : Type 0 where
  pub is : IsSymbol v m
  pub fit : fits m ≡ true

-- the one that is told first of them
pub record IsFirstFitting (v : CellsValue) (fits : SymbolStart → Bool) (f : SymbolStart) : Type 0 where
  pub was : IsFitting v fits f
  pub first : (m : SymbolStart) → IsFitting v fits m → comes_before m f ≡ false

-- it, where there is one
abbrev pub IsFirst : CellsValue → (SymbolStart → Bool) → Option SymbolStart → Type 0
IsFirst v fits None = (m : SymbolStart) → IsSymbol v m → fits m ≡ false
IsFirst v fits (Some f) = IsFirstFitting v fits f

-- none of these symbols is one of them
abbrev pub HasNone : CellsValue → (SymbolStart → Bool) → (SymbolStart → Type 0) → Type 0
HasNone v fits Over = (m : SymbolStart) → IsSymbol v m → Over m → fits m ≡ false

-- the symbols of an endpoint, and of a slot of it
abbrev pub OfEndpoint : ℕ → SymbolStart → Type 0
OfEndpoint ep m = m.ep ≡ ep

abbrev pub InSlot : ℕ → Slot → SymbolStart → Type 0
InSlot ep slot m = (m.ep ≡ ep) × (m.slot ≡ slot)

-- something is found, and this holds of it
abbrev pub IsFound : (SymbolStart → Type 0) → Option SymbolStart → Type 0
IsFound P None = ⊥
IsFound P (Some m) = P m

-- each of these symbols that is one of them starts at a tick or later: without a tick none of them is one
abbrev pub FitsFrom : CellsValue → (SymbolStart → Bool) → (SymbolStart → Type 0) → Option Ticks → Type 0
FitsFrom v fits Over None = HasNone v fits Over
FitsFrom v fits Over (Some t) = (m : SymbolStart) → IsFitting v fits m → Over m → t.0 ≤ℤ m.start.0
