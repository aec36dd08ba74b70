-- The symbols of which uplink cells are planned, in the order in which symbols are told (this project's profile).
use Rattle.std.specs.Prelude.{pos, ◌≤ℤ◌, ◌≡◌, ℕ, ◌+◌, ◌^◌, ◌≤◌, ◌<◌, Bool, true, false, not, ◌&&◌, ◌||◌, nat_lt, List, slice_get, Option, Some, None, IfSome}
use Rattle.fh_base.specs.Numbering.{symbols_of}
use Rattle.window_config.specs.declared.config.Config.{Config}
use Rattle.unit_model.specs.Claims.{cell_at, claim_at, first_prb, in_mask, is_from, prb_count}
use Rattle.unit_model.specs.Radiated.{used_mask}
use Rattle.unit_model.specs.declared.cells.Cell.{Cell}
use Rattle.unit_model.specs.Order.{comes_before}
use Rattle.unit_model.specs.Proper.{IsAt, IsSlot}
use Rattle.unit_model.specs.Starts.{start_at}
use Rattle.unit_model.specs.declared.allocations.Allocation.{Allocation}
use Rattle.unit_model.specs.declared.symbol_start.SymbolStart.{SymbolStart}
use Rattle.window_config.specs.declared.plan.TheConstants.{LAST_FRAME}
use Rattle.unit_symbols.specs.Searches.{IsNotBefore}
use Rattle.fh_base.specs.declared.carrier.TheConstants.{CARRIER_PRBS}

-- the times of an allocation's symbols can be told
pub record IsTimedAllocation (a : Allocation) : Type 0 where
  pub slot_is : IsSlot a.endpoint.numerology a.slot
  pub within : a.symbol + a.num_symbol ≤ symbols_of a.endpoint.numerology

-- ---- symbols in their order

-- it is after the last one, if there is one
abbrev pub is_after : Option SymbolStart → SymbolStart → Bool
is_after None m = true
is_after (Some last) m = comes_before last m

-- one of the first n symbols that an allocation names
pub record NamesIn (a : Allocation) (n : ℕ) (m : SymbolStart) : Type 0 where
  pub symbol : is_from a.symbol n m.symbol ≡ true
  pub is : m ≡ start_at a.ep a.endpoint a.slot m.symbol

-- a symbol that one of these allocations names
pub record IsNamed (planned : List Allocation) (m : SymbolStart) : Type 0 where
  pub k : ℕ
  pub by : Allocation
  pub at : slice_get planned k ≡ Some by
  pub names : NamesIn by by.num_symbol m

-- the first symbol after the last one, if there is one, that these allocations name
pub record IsNextPlannedSymbol (planned : List Allocation) (last next : Option SymbolStart) : Type 0 where
  pub named : IfSome next (IsNamed planned)
  pub after : IfSome next (λ m. is_after last m ≡ true)
  pub first : (m : SymbolStart) → IsNamed planned m → is_after last m ≡ true → IsNotBefore m next

-- ---- a cursor

-- the first symbol of which a planned cell is left, if there is one; its PRBs below this one are done
pub record CellCursor : Type 0 where
  pub next : Option SymbolStart
  pub prb : ℕ

-- the cell of a symbol at a PRB is before that of the next symbol at the next PRB
abbrev pub is_behind : Option SymbolStart → ℕ → SymbolStart → ℕ → Bool
is_behind None next_prb m prb = true
is_behind (Some next) next_prb m prb = comes_before m next || (not (comes_before next m) && nat_lt prb next_prb)

-- ---- what is planned

-- what a line of a valid plan names of the uplink
pub record IsPlanned (c : Config) (a : Allocation) : Type 0 where
  pub at : IsAt c.endpoints a.ep a.endpoint
  pub begun : pos 1 ≤ℤ a.slot.frame
  pub ended : a.slot.frame ≤ℤ pos LAST_FRAME
  pub timed : IsTimedAllocation a
  pub down : a.down ≡ false
  pub idle : a.idle ≡ false
  pub twelve : a.mask < 2 ^ 12
  pub most : a.endpoint.prbs ≤ CARRIER_PRBS
  pub prbs : 0 < prb_count a
  pub inside : first_prb a + prb_count a ≤ a.endpoint.prbs
  -- an element that it names
  pub re : ℕ
  pub few : re < 12
  pub mask : in_mask a.mask re ≡ true

abbrev pub ArePlanned : Config → List Allocation → Type 0
ArePlanned c planned = (k : ℕ) (a : Allocation) → slice_get planned k ≡ Some a → IsPlanned c a

-- the uplink cell of a symbol at a PRB
abbrev pub uplink_cell_in : SymbolStart → ℕ → Cell
uplink_cell_in m prb = cell_at m.ep false m.slot m.symbol prb

-- from a PRB on, a cell of the symbol is planned
pub record HasStillLeft (planned : List Allocation) (from : ℕ) (m : SymbolStart) : Type 0 where
  pub prb : ℕ
  pub low : from ≤ prb
  pub below : prb < m.endpoint.prbs
  pub used : 0 < used_mask (claim_at planned (uplink_cell_in m prb))
