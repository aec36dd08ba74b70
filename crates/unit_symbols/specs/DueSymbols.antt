-- What is still to be reported of a symbol of a radio unit's rings, by look-up (this project's profile).
use Rattle.std.specs.Prelude.{◌≡◌, ℕ, ℤ, ◌<◌, Bool, true, ◌&&◌, ◌||◌, ◌==◌, if◌then◌else◌, List, [], ◌∷◌, ◌++◌, ◌+◌, ◌^◌, int_lt, map}
use Rattle.std.specs.List.{list_any}
use Rattle.air_source.specs.declared.events.AirCell.{AirCell}
use Rattle.air_source.specs.declared.events.Event.{Event}
use Rattle.air_source.specs.declared.events.Event.TheVariants.{Cell as Reported}
use Rattle.air_source.specs.declared.events.Side.TheVariants.{Ru}
use Rattle.fault_counters.specs.declared.kinds.Counter.{Counter}
use Rattle.fault_counters.specs.Counts.{capped, count_of, times}
use Rattle.window_config.specs.declared.config.Config.{Config}
use Rattle.unit_model.specs.Claims.{cell_at, same_slot}
use Rattle.unit_model.specs.Counts.{cells_counted}
use Rattle.fh_base.specs.Lists.{each, some}
use Rattle.unit_model.specs.Radiated.{Known}
use Rattle.unit_model.specs.Starts.{cell_told}
use Rattle.unit_model.specs.declared.allocations.Allocation.{Allocation}
use Rattle.unit_model.specs.declared.cells.Cell.{Cell}
use Rattle.unit_model.specs.declared.decoded.UserSection.{UserSection}
use Rattle.unit_model.specs.declared.symbol_start.SymbolStart.{SymbolStart}
use Rattle.slot_rings.specs.Places.{is_due}
use Rattle.air_source.specs.declared.events.Side.{Side}
use Rattle.unit_cells.specs.Cells.{CellsValue, IsCellIn, cells_block, cells_claim, cells_reported, endpoints_of}
use Rattle.unit_cells.specs.Keeping.{Keeps, SameKnown}

-- the downlink cell of a symbol at a PRB
abbrev pub cell_in : SymbolStart → ℕ → Cell
cell_in m prb = cell_at m.ep true m.slot m.symbol prb

-- a downlink cell of the symbol is in use and was not reported
abbrev pub is_left : CellsValue → SymbolStart → Bool
is_left v m = some 0 m.endpoint.prbs (λ prb. is_due (cells_claim v (cell_in m prb)) (cells_reported v (cell_in m prb)))

-- and the symbol starts after a time
abbrev pub is_left_after : CellsValue → ℤ → SymbolStart → Bool
is_left_after v time m = int_lt time m.start.0 && is_left v m

-- what is claimed and given, by look-up
abbrev pub known_by : CellsValue → Known
known_by v = record { claims = cells_claim v; blocks = cells_block v }

-- what is still to be reported of a symbol, in the order of PRBs
abbrev pub left_told : CellsValue → SymbolStart → ℕ → List AirCell
left_told v m prb = if cells_reported v (cell_in m prb) then [] else cell_told Ru (known_by v) m prb

unfoldable pub left_at : CellsValue → SymbolStart → List AirCell
left_at v m = each 0 m.endpoint.prbs (left_told v m)

-- one of these reports is of this cell, where all are of one symbol
abbrev pub is_told : SymbolStart → List AirCell → Cell → Bool
is_told m told cell =
    (cell.ep == m.ep) && (same_slot cell.slot m.slot && ((cell.symbol == m.symbol) && list_any (λ a. a.prb == cell.prb) told))

-- these cells of a symbol were set as reported, and nothing else changed
pub record ReportsTold (m : SymbolStart) (told : List AirCell) (old new : CellsValue) : Type 0 where
  pub reports : (cell : Cell) → IsCellIn old cell → cell.down ≡ true → cells_reported new cell ≡ (cells_reported old cell || is_told m told cell)
  pub keeps : (side : Side) (c : Config) (clock : ℤ) (acc : List Allocation) (ds : List UserSection) → Keeps side c clock old acc ds → Keeps side c clock new acc ds
  pub known : SameKnown old new
  pub side : new.side ≡ old.side
  pub delays : new.delays ≡ old.delays
  pub endpoints : endpoints_of new ≡ endpoints_of old

-- and counted, by whether their samples were received: each counter, which is a number of 64 bits
abbrev pub CountsTold : List AirCell → List ℕ → List ℕ → Type 0
CountsTold told old new = (k : Counter) → count_of old k < 2 ^ 64 → count_of new k ≡ capped (count_of old k + times (cells_counted told) k)

-- an air stopped in one of the cells: those before it are set as reported and counted
pub record StopsAtCell {A : Type 0} (grew : A → List Event → A → Type 0) (stopped : A → Event → A → Type 0) (m : SymbolStart)
    (old new : CellsValue) (counts_old counts_new : List ℕ) (before after : A) : Type 0 where
  pub told : List AirCell
  pub cell : AirCell
  pub rest : List AirCell
  pub is : left_at old m ≡ told ++ cell ∷ rest
  pub reports : ReportsTold m told old new
  pub counts : CountsTold told counts_old counts_new
  pub middle : A
  pub heard : grew before (map Reported told) middle
  pub stop : stopped middle (Reported cell) after
