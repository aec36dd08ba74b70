-- Each planned uplink cell is taken in exactly once.
use Rattle.std.specs.Prelude.{◌≡◌, ℕ, ℤ, ◌<◌, ◌+ℤ◌, ◌≤ℤ◌, true, List, [], ◌∷◌, filter}
use Rattle.fh_base.specs.Air.{air_of}
use Rattle.air_source.specs.declared.events.AirCell.{AirCell}
use Rattle.air_source.specs.declared.events.Side.TheVariants.{Du}
use Rattle.window_config.specs.declared.config.Config.{Config}
use Rattle.window_config.specs.declared.plan.PlanLine.{PlanLine}
use Rattle.unit_model.specs.Claims.{cell_of, names}
use Rattle.unit_model.specs.Meetings.{Arrival}
use Rattle.unit_model.specs.Radiated.{wait_of}
use Rattle.unit_model.specs.Reports.{du_reported}
use Rattle.unit_model.specs.Standing.{same_cell}
use Rattle.plan_model.specs.Lines.{line_allocation, planned, uplink_allocations, is_up_line}
use Rattle.plan_model.specs.declared.lines.PlannedLine.{PlannedLine}
use Rattle.schedule_laws.specs.Data.{Blocks}
use Rattle.sent_frames.specs.Messages.{Source}
use Rattle.uplink_model.specs.Frames.{Antenna}
use Rattle.uplink_laws.specs.Cells.{taken_event}
use Rattle.uplink_laws.specs.Data.{antenna_blocks}
use Rattle.uplink_laws.specs.Premise.{BothArrive}
use Rattle.fh_base.specs.Members.{IsIn}

-- the event of one of a line's cells
abbrev pub uplink_event_of : Blocks → List PlannedLine → PlannedLine → ℕ → ℕ → AirCell
uplink_event_of blocks ps p symbol prb =
    taken_event blocks ps p.endpoint (cell_of (line_allocation p) symbol prb) (air_of p.endpoint.numerology p.line.slot symbol)

-- of a cell in which a `ul` line names an element, one event is reported once Ta4's maximum is over, and it is the plan's
abbrev pub EachCellIsTakenOnce : Type 0
EachCellIsTakenOnce =
    (c : Config) (lines : List PlanLine) (source : Source) (antenna : Antenna) (down up : List Arrival) → BothArrive c lines source antenna down up
    → (p : PlannedLine) (symbol prb re : ℕ) (to : ℤ) → IsIn p (planned c.endpoints lines) → is_up_line p ≡ true → re < 12
    → names (line_allocation p) (cell_of (line_allocation p) symbol prb) re ≡ true
    → (air_of p.endpoint.numerology p.line.slot symbol +ℤ wait_of Du c.delays) ≤ℤ to
    → filter (same_cell (uplink_event_of (antenna_blocks c antenna) (planned c.endpoints lines) p symbol prb)) (du_reported c (uplink_allocations (planned c.endpoints lines)) up to)
    ≡ uplink_event_of (antenna_blocks c antenna) (planned c.endpoints lines) p symbol prb ∷ []
