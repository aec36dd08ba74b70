-- How the symbols of a plan are listed: slot by slot, and then in the order of their starts (this project's means to sort once).
use Rattle.std.specs.Prelude.{◌≡◌, ℕ, ◌<◌, ◌≤◌, Bool, true, false, ◌&&◌, ◌||◌, ◌==◌, nat_lt, List, length, slice_get, Some}
use Rattle.std.specs.List.{AllPairs, list_any}
use Rattle.std.specs.List.Sorted.{IsStableBy, ties}
use Rattle.std.specs.Ordering.{int_cmp, is_lt}
use Rattle.fh_base.specs.Air.{air_of}
use Rattle.window_config.specs.declared.endpoints.EndpointConfig.{EndpointConfig}
use Rattle.unit_model.specs.Order.{symbol_before}
use Rattle.unit_model.specs.Proper.{IsAt}
use Rattle.du_intake.specs.Lines.{has_symbol, lines_at, same_home}
use Rattle.du_intake.specs.Symbols.{lines_in}
use Rattle.du_intake.specs.declared.lines.UplinkLine.{UplinkLine}
use Rattle.du_intake.specs.declared.symbols.PlannedSymbol.{PlannedSymbol}
use Rattle.fh_base.specs.Members.{IsIn}

-- the lines of the slot of the one at `first` end there
pub record IsSlotEnd (ls : List UplinkLine) (first end : ℕ) : Type 0 where
  pub order : first < end
  pub within : end ≤ length ls
  pub same : (k : ℕ) (a l : UplinkLine) → first ≤ k → k < end → slice_get ls first ≡ Some a → slice_get ls k ≡ Some l → same_home l a ≡ true
  pub over : (a l : UplinkLine) → slice_get ls first ≡ Some a → slice_get ls end ≡ Some l → same_home l a ≡ false

-- ---- slot by slot

-- by endpoint, slot and symbol, where the endpoints and slots are those of lines
abbrev pub symbol_first : UplinkLine → ℕ → UplinkLine → ℕ → Bool
symbol_first a x b y = nat_lt a.ep b.ep || ((a.ep == b.ep) && symbol_before a.slot x b.slot y)

abbrev pub PrecedesSymbol : List UplinkLine → PlannedSymbol → PlannedSymbol → Type 0
PrecedesSymbol ls p q = (a b : UplinkLine) → slice_get ls p.first ≡ Some a → slice_get ls q.first ≡ Some b → symbol_first a p.symbol b q.symbol ≡ true

-- it is a symbol of a slot that one of the slot's lines names
pub record IsSymbolOf (es : List EndpointConfig) (ls : List UplinkLine) (s : PlannedSymbol) : Type 0 where
  pub head : UplinkLine
  pub at : slice_get ls s.first ≡ Some head
  pub endpoint : EndpointConfig
  pub at_endpoint : IsAt es head.ep endpoint
  pub starts : s.start.0 ≡ air_of endpoint.numerology head.slot s.symbol
  pub order : s.first < s.last
  pub within : s.last ≤ length ls
  pub lines : lines_in ls s ≡ lines_at head.ep head.slot ls
  pub named : list_any (has_symbol s.symbol) (lines_in ls s) ≡ true

-- one of the symbols is this one of the line's slot
pub record IsListedIn (ss : List PlannedSymbol) (k symbol : ℕ) : Type 0 where
  pub s : PlannedSymbol
  pub there : IsIn s ss
  pub symbol_is : s.symbol ≡ symbol
  pub low : s.first ≤ k
  pub high : k < s.last

-- the symbols of the first n lines, slot by slot
pub record AreSymbols (es : List EndpointConfig) (ls : List UplinkLine) (n : ℕ) (ss : List PlannedSymbol) : Type 0 where
  pub each : (s : PlannedSymbol) → IsIn s ss → IsSymbolOf es ls s × (s.last ≤ n)
  pub all : (k symbol : ℕ) (l : UplinkLine) → k < n → slice_get ls k ≡ Some l → has_symbol symbol l ≡ true → IsListedIn ss k symbol
  pub order : AllPairs (PrecedesSymbol ls) ss

-- ---- by their starts

abbrev pub starts_before : PlannedSymbol → PlannedSymbol → Bool
starts_before a b = is_lt (int_cmp a.start.0 b.start.0)

-- none starts before one that precedes it
abbrev pub AreAscending : List PlannedSymbol → Type 0
AreAscending ss = AllPairs (λ p q. starts_before q p ≡ false) ss

-- those that start at one tick keep their order
abbrev pub IsStableByStart : List PlannedSymbol → List PlannedSymbol → Type 0
IsStableByStart old new = IsStableBy starts_before old new

-- the one starts no later, and where both start at one tick, it precedes the other
abbrev pub ComesFirst : List UplinkLine → PlannedSymbol → PlannedSymbol → Type 0
ComesFirst ls p q = (starts_before q p ≡ false) × (ties starts_before p q ≡ true → PrecedesSymbol ls p q)

-- the symbols of all lines, in the order in which symbols are told
pub record AreInTurn (es : List EndpointConfig) (ls : List UplinkLine) (ss : List PlannedSymbol) : Type 0 where
  pub each : (s : PlannedSymbol) → IsIn s ss → IsSymbolOf es ls s
  pub all : (k symbol : ℕ) (l : UplinkLine) → slice_get ls k ≡ Some l → has_symbol symbol l ≡ true → IsListedIn ss k symbol
  pub order : AllPairs (ComesFirst ls) ss
