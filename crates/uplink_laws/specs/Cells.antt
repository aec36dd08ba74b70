-- What the distributed unit takes in of a plan, cell by cell.
use Rattle.std.specs.Prelude.{◌≡◌, ℕ, ℤ, pos, ◌+ℤ◌, ◌-ℤ◌, ◌==◌, false, if◌then◌else◌, List, [], ◌∷◌, Some}
use Rattle.fh_base.specs.Air.{air_of}
use Rattle.fh_base.specs.declared.values.Slot.{Slot}
use Rattle.air_source.specs.declared.events.AirCell.{AirCell}
use Rattle.air_source.specs.declared.events.Side.TheVariants.{Du}
use Rattle.window_config.specs.declared.config.Config.{Config}
use Rattle.window_config.specs.declared.endpoints.EndpointConfig.{EndpointConfig}
use Rattle.window_config.specs.declared.plan.PlanLine.{PlanLine}
use Rattle.unit_model.specs.Claims.{cell_at}
use Rattle.fh_base.specs.Lists.{each}
use Rattle.unit_model.specs.Meetings.{Arrival}
use Rattle.unit_model.specs.Radiated.{first_clock, wait_of}
use Rattle.unit_model.specs.Reports.{du_reported}
use Rattle.unit_model.specs.Sweeps.{sweep}
use Rattle.unit_model.specs.declared.cells.Cell.{Cell}
use Rattle.plan_model.specs.Lines.{planned, uplink_allocations}
use Rattle.plan_model.specs.declared.lines.PlannedLine.{PlannedLine}
use Rattle.schedule_laws.specs.Cells.{planned_mask, planned_section}
use Rattle.schedule_laws.specs.Data.{Blocks}
use Rattle.sent_frames.specs.Messages.{Source}
use Rattle.uplink_model.specs.Frames.{Antenna}
use Rattle.uplink_laws.specs.Data.{antenna_blocks}
use Rattle.uplink_laws.specs.Premise.{BothArrive}

-- an uplink cell of a plan, with the union of its lines' masks, their section id, which is one, and its samples: none is missing
abbrev pub taken_event : Blocks → List PlannedLine → EndpointConfig → Cell → ℤ → AirCell
taken_event blocks ps e cell start = record {
  side = Du;
  at = record { 0 = start };
  id = e.id;
  slot = cell.slot;
  symbol = cell.symbol;
  prb = cell.prb;
  section = planned_section ps cell;
  mask = planned_mask ps cell;
  block = Some (blocks cell);
}

-- a cell is taken in where an uplink line names one of its elements
abbrev pub taken_cell : Blocks → List PlannedLine → ℕ → EndpointConfig → Slot → ℕ → ℕ → List AirCell
taken_cell blocks ps ep e slot symbol prb =
    if planned_mask ps (cell_at ep false slot symbol prb) == 0 then []
    else taken_event blocks ps e (cell_at ep false slot symbol prb) (air_of e.numerology slot symbol) ∷ []

abbrev pub taken_symbol : Blocks → List PlannedLine → ℕ → EndpointConfig → Slot → ℕ → List AirCell
taken_symbol blocks ps ep e slot symbol = each 0 e.prbs (taken_cell blocks ps ep e slot symbol)

-- the cells whose moments, Ta4's maximum after their symbols' starts, are reached by a time, that time included, in the order of
-- moments, endpoints, slots, symbols and PRBs
abbrev pub taken_air : Config → Blocks → List PlannedLine → ℤ → List AirCell
taken_air c blocks ps to =
    sweep (taken_symbol blocks ps) c.endpoints (first_clock -ℤ wait_of Du c.delays) ((to -ℤ wait_of Du c.delays) +ℤ pos 1)

-- what the distributed unit reports is, cell for cell and in order, what the plan's uplink lines say
abbrev pub ThePlanIsTakenIn : Type 0
ThePlanIsTakenIn =
    (c : Config) (lines : List PlanLine) (source : Source) (antenna : Antenna) (down up : List Arrival) → BothArrive c lines source antenna down up → (to : ℤ)
    → du_reported c (uplink_allocations (planned c.endpoints lines)) up to ≡ taken_air c (antenna_blocks c antenna) (planned c.endpoints lines) to
