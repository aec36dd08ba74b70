-- What radiates of a plan, cell by cell.
use Rattle.std.specs.Prelude.{◌≡◌, ℕ, zero, suc, ℤ, pos, ◌+◌, ◌*◌, ◌+ℤ◌, ◌&&◌, ◌==◌, Bool, true, not, if◌then◌else◌, List, [], ◌∷◌, Some}
use Rattle.std.specs.List.{list_any}
use Rattle.fh_base.specs.Air.{air_of}
use Rattle.fh_base.specs.declared.values.Slot.{Slot}
use Rattle.air_source.specs.declared.events.AirCell.{AirCell}
use Rattle.air_source.specs.declared.events.Side.TheVariants.{Ru}
use Rattle.window_config.specs.declared.config.Config.{Config}
use Rattle.window_config.specs.declared.endpoints.EndpointConfig.{EndpointConfig}
use Rattle.window_config.specs.declared.plan.PlanLine.{PlanLine}
use Rattle.unit_model.specs.Claims.{cell_at, names}
use Rattle.fh_base.specs.Lists.{each}
use Rattle.unit_model.specs.Meetings.{Arrival}
use Rattle.unit_model.specs.Radiated.{first_clock}
use Rattle.unit_model.specs.Reports.{ru_reported}
use Rattle.unit_model.specs.Sweeps.{sweep}
use Rattle.unit_model.specs.declared.cells.Cell.{Cell}
use Rattle.plan_model.specs.Lines.{line_allocation, planned}
use Rattle.plan_model.specs.declared.lines.PlannedLine.{PlannedLine}
use Rattle.schedule_laws.specs.Data.{AreWritten, Blocks, radiates_in}
use Rattle.schedule_laws.specs.Premise.{AllArrive, Texts}

-- a line that radiates names this element of a cell
abbrev pub radiates : List PlannedLine → Cell → ℕ → Bool
radiates ps cell re = list_any (λ p. not (line_allocation p).idle && names (line_allocation p) cell re) ps

-- the elements below n that pass a test, as a number of n bits whose most significant is element 0
unfoldable pub mask_below : (ℕ → Bool) → ℕ → ℕ
mask_below test zero = 0
mask_below test (suc n) = 2 * mask_below test n + (if test n then 1 else 0)

-- the union of the masks of the lines that radiate in a cell
abbrev pub planned_mask : List PlannedLine → Cell → ℕ
planned_mask ps cell = mask_below (radiates ps cell) 12

-- their section id, which is one
abbrev pub planned_section : List PlannedLine → Cell → ℕ
planned_section [] cell = 0
planned_section (p ∷ ps) cell = if radiates_in p cell then p.line.section else planned_section ps cell

-- a cell that radiates, with its samples: none is missing
abbrev pub planned_event : Blocks → List PlannedLine → EndpointConfig → Cell → ℤ → AirCell
planned_event blocks ps e cell start = record {
  side = Ru;
  at = record { 0 = start };
  id = e.id;
  slot = cell.slot;
  symbol = cell.symbol;
  prb = cell.prb;
  section = planned_section ps cell;
  mask = planned_mask ps cell;
  block = Some (blocks cell);
}

-- a cell radiates where a line that radiates names one of its elements, and so none that only `idle` lines name
abbrev pub planned_cell : Blocks → List PlannedLine → ℕ → EndpointConfig → Slot → ℕ → ℕ → List AirCell
planned_cell blocks ps ep e slot symbol prb =
    if planned_mask ps (cell_at ep true slot symbol prb) == 0 then []
    else planned_event blocks ps e (cell_at ep true slot symbol prb) (air_of e.numerology slot symbol) ∷ []

abbrev pub planned_symbol : Blocks → List PlannedLine → ℕ → EndpointConfig → Slot → ℕ → List AirCell
planned_symbol blocks ps ep e slot symbol = each 0 e.prbs (planned_cell blocks ps ep e slot symbol)

-- the cells of all symbols that start by a time, that time included, in the order of time, endpoint, slot, symbol and PRB
abbrev pub planned_air : Config → Blocks → List PlannedLine → ℤ → List AirCell
planned_air c blocks ps to = sweep (planned_symbol blocks ps) c.endpoints first_clock (to +ℤ pos 1)

-- what the radio unit reports is, cell for cell and in order, what the plan says
abbrev pub ThePlanRadiates : Type 0
ThePlanRadiates =
    (c : Config) (lines : List PlanLine) (text : Texts) (blocks : Blocks) (arrivals : List Arrival) → AllArrive c lines text arrivals
    → AreWritten c (planned c.endpoints lines) text blocks → (to : ℤ) → ru_reported c arrivals to ≡ planned_air c blocks (planned c.endpoints lines) to
