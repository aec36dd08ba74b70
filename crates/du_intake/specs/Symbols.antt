-- The symbols of which uplink cells are planned, as the unit keeps them: each once, in the order in which symbols are told (this
-- project's profile).
use Rattle.std.specs.Prelude.{◌≡◌, ℕ, ◌+◌, ◌-◌, ◌<◌, ◌≤◌, ◌^◌, true, false, if◌then◌else◌, List, [], ◌∷◌, length, take, drop, slice_get, Option, Some, None}
use Rattle.std.specs.List.{list_any}
use Rattle.fh_base.specs.Air.{air_of}
use Rattle.fh_base.specs.Numbering.{symbols_of}
use Rattle.fh_base.specs.declared.values.Slot.{Slot}
use Rattle.window_config.specs.declared.config.Config.{Config}
use Rattle.window_config.specs.declared.endpoints.EndpointConfig.{EndpointConfig}
use Rattle.unit_model.specs.Claims.{claim_at, is_from}
use Rattle.fh_base.specs.Lists.{each}
use Rattle.unit_model.specs.Order.{comes_before}
use Rattle.unit_model.specs.Proper.{IsAt, IsSlot}
use Rattle.unit_model.specs.declared.allocations.Allocation.{Allocation}
use Rattle.unit_model.specs.declared.cells.Cell.{Cell}
use Rattle.unit_model.specs.declared.symbol_start.SymbolStart.{SymbolStart}
use Rattle.du_intake.specs.Cursors.{IsNamed}
use Rattle.du_intake.specs.Lines.{claim_by, has_symbol, lines_at}
use Rattle.du_intake.specs.declared.lines.UplinkLine.{UplinkLine}
use Rattle.du_intake.specs.declared.plan.UplinkPlan.{UplinkPlan}
use Rattle.du_intake.specs.declared.symbols.PlannedSymbol.{PlannedSymbol}
use Rattle.fh_base.specs.declared.carrier.TheConstants.{CARRIER_PRBS}

-- ---- a symbol

-- the lines of its slot
abbrev pub lines_in : List UplinkLine → PlannedSymbol → List UplinkLine
lines_in ls s = take (s.last - s.first) (drop s.first ls)

-- its start, where its endpoint and slot are those of a line
abbrev pub planned_start : PlannedSymbol → UplinkLine → EndpointConfig → SymbolStart
planned_start s l e = record { ep = l.ep; endpoint = e; start = s.start; slot = l.slot; symbol = s.symbol }

abbrev pub start_with : PlannedSymbol → UplinkLine → Option EndpointConfig → Option SymbolStart
start_with s l None = None
start_with s l (Some e) = Some (planned_start s l e)

abbrev pub start_by : List EndpointConfig → PlannedSymbol → Option UplinkLine → Option SymbolStart
start_by es s None = None
start_by es s (Some l) = start_with s l (slice_get es l.ep)

-- its endpoint and slot are those of the first of its lines
abbrev pub planned_start_in : List EndpointConfig → List UplinkLine → Option PlannedSymbol → Option SymbolStart
planned_start_in es ls None = None
planned_start_in es ls (Some s) = start_by es s (slice_get ls s.first)

-- the start of the symbol at an index, if there is one
abbrev pub symbol_at : List EndpointConfig → UplinkPlan → ℕ → Option SymbolStart
symbol_at es p k = planned_start_in es p.lines.items (slice_get p.symbols.items k)

-- ---- the symbols of one slot

-- one symbol of a slot, where one of its lines names it
abbrev pub symbol_if : EndpointConfig → Slot → List UplinkLine → ℕ → ℕ → ℕ → List PlannedSymbol
symbol_if e slot own first last symbol =
    if list_any (has_symbol symbol) own
    then (record { start = record { 0 = air_of e.numerology slot symbol }; first = first; last = last; symbol = symbol }) ∷ []
    else []

abbrev pub symbols_in : EndpointConfig → Slot → List UplinkLine → ℕ → ℕ → List PlannedSymbol
symbols_in e slot own first last = each 0 (symbols_of e.numerology) (symbol_if e slot own first last)

-- ---- what is known of the lines

-- a line of a valid plan
pub record IsLine (es : List EndpointConfig) (l : UplinkLine) : Type 0 where
  pub endpoint : EndpointConfig
  pub at : IsAt es l.ep endpoint
  pub slot_is : IsSlot endpoint.numerology l.slot
  pub within : l.symbol + l.num_symbol ≤ symbols_of endpoint.numerology
  pub inside : l.first_prb + l.prbs ≤ endpoint.prbs
  pub few : endpoint.prbs ≤ CARRIER_PRBS
  pub mask : l.mask < 2 ^ 12

abbrev pub AreLines : List EndpointConfig → List UplinkLine → Type 0
AreLines es ls = (k : ℕ) (l : UplinkLine) → slice_get ls k ≡ Some l → IsLine es l

-- two of them that name a cell have one section id
abbrev pub AreOneSection : List UplinkLine → ℕ → Type 0
AreOneSection ls symbol =
    (i j prb : ℕ) (k l : UplinkLine) → slice_get ls i ≡ Some k → slice_get ls j ≡ Some l → has_symbol symbol k ≡ true → has_symbol symbol l ≡ true
    → is_from k.first_prb k.prbs prb ≡ true → is_from l.first_prb l.prbs prb ≡ true → k.section ≡ l.section

-- ---- a plan

-- a symbol that is kept: its start, and its slot's lines
pub record IsKeptSymbol (es : List EndpointConfig) (planned : List Allocation) (ls : List UplinkLine) (s : PlannedSymbol) : Type 0 where
  pub start : SymbolStart
  pub is : planned_start_in es ls (Some s) ≡ Some start
  pub named : IsNamed planned start
  pub order : s.first ≤ s.last
  pub within : s.last ≤ length ls
  pub lines : lines_in ls s ≡ lines_at start.ep start.slot ls
  pub one : AreOneSection (lines_in ls s) s.symbol

-- one of the symbols has this start
pub record IsSymbolOfPlan (es : List EndpointConfig) (p : UplinkPlan) (m : SymbolStart) : Type 0 where
  pub k : ℕ
  pub is : symbol_at es p k ≡ Some m

-- what is kept of a plan
pub record IsListed (c : Config) (planned : List Allocation) (p : UplinkPlan) : Type 0 where
  -- its lines claim what the plan does
  pub claims : (cell : Cell) (re : ℕ) → cell.down ≡ false → claim_by p.lines.items cell re ≡ claim_at planned cell re
  pub lines : AreLines c.endpoints p.lines.items
  -- its symbols are those that the plan names, each before the next
  pub symbols : (k : ℕ) (s : PlannedSymbol) → slice_get p.symbols.items k ≡ Some s → IsKeptSymbol c.endpoints planned p.lines.items s
  pub all : (m : SymbolStart) → IsNamed planned m → IsSymbolOfPlan c.endpoints p m
  pub order : (i j : ℕ) (m n : SymbolStart) → i < j → symbol_at c.endpoints p i ≡ Some m → symbol_at c.endpoints p j ≡ Some n → comes_before m n ≡ true

-- of some plan of some configuration
pub record IsListedSome (p : UplinkPlan) : Type 0 where
  pub config : Config
  pub planned : List Allocation
  pub listed : IsListed config planned p
