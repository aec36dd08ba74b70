-- A search for the symbol that is told first, over some symbols of the rings (this project's profile).
use Rattle.std.specs.Prelude.{◌≡◌, ℕ, ℤ, ◌<◌, ◌≤◌, Bool, true, false, ◌&&◌, ◌||◌, nat_lt, int_lt, Option, Some, None, IfSome}
use Rattle.std.specs.Ordering.{int_eq}
use Rattle.unit_model.specs.Order.{comes_before}
use Rattle.unit_model.specs.declared.symbol_start.SymbolStart.{SymbolStart}
use Rattle.unit_cells.specs.Cells.{CellsValue, cells_index}
use Rattle.unit_symbols.specs.Symbols.{HasNone, IsFitting, IsFound}
use Rattle.unit_symbols.specs.declared.finding.Lead.{Lead}

-- a symbol is before what was found, or nothing was
abbrev pub is_earlier : SymbolStart → Option SymbolStart → Bool
is_earlier m None = true
is_earlier m (Some found) = comes_before m found

-- something was found, and no symbol of an endpoint that starts at this tick or later is before it
abbrev pub is_passed : Option SymbolStart → ℕ → ℤ → Bool
is_passed None ep t = false
is_passed (Some found) ep t = int_lt found.start.0 t || (int_eq found.start.0 t && nat_lt found.ep ep)

-- something is found, and this symbol is not before it
abbrev pub IsNotBefore : SymbolStart → Option SymbolStart → Type 0
IsNotBefore m found = IsFound (λ f. comes_before m f ≡ false) found

-- the search went on over these symbols
pub record Searched (v : CellsValue) (fits : SymbolStart → Bool) (Over : SymbolStart → Type 0) (old new : Option SymbolStart) : Type 0 where
  pub fitting : IfSome old (IsFitting v fits) → IfSome new (IsFitting v fits)
  pub keeps : (m : SymbolStart) → IsNotBefore m old → IsNotBefore m new
  pub finds : (m : SymbolStart) → IsFitting v fits m → Over m → IsNotBefore m new

-- a symbol does not start before the tick of the endpoint that leads, nor at it with a lower endpoint
abbrev pub IsNotAhead : SymbolStart → Lead → Type 0
IsNotAhead m l = (int_lt m.start.0 l.start.0 || (int_eq m.start.0 l.start.0 && nat_lt m.ep l.ep)) ≡ false

-- one of the first so many endpoints leads, ahead of which none of their symbols fits, or none of these fits
pub record IsLead (v : CellsValue) (fits : SymbolStart → Bool) (count : ℕ) (l : Lead) : Type 0 where
  pub few : l.ep ≤ count
  pub within : l.any ≡ true → l.ep < count
  pub none : l.any ≡ false → HasNone v fits (λ m. m.ep < count)
  pub least : (m : SymbolStart) → IsFitting v fits m → m.ep < count → IsNotAhead m l

-- the symbols of the slot that has a place
abbrev pub InPlace : CellsValue → ℕ → ℕ → SymbolStart → Type 0
InPlace v ep index m = (m.ep ≡ ep) × (cells_index v ep m.slot ≡ index)
