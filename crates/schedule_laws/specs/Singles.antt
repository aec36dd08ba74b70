-- Each planned cell radiates exactly once.
use Rattle.std.specs.Prelude.{◌≡◌, ℕ, ℤ, ◌<◌, ◌≤ℤ◌, true, false, List, [], ◌∷◌, filter}
use Rattle.fh_base.specs.Air.{air_of}
use Rattle.window_config.specs.declared.config.Config.{Config}
use Rattle.window_config.specs.declared.plan.PlanLine.{PlanLine}
use Rattle.unit_model.specs.Claims.{cell_of, names}
use Rattle.unit_model.specs.Meetings.{Arrival}
use Rattle.unit_model.specs.Reports.{ru_reported}
use Rattle.unit_model.specs.Standing.{same_cell}
use Rattle.air_source.specs.declared.events.AirCell.{AirCell}
use Rattle.plan_model.specs.Lines.{line_allocation, planned}
use Rattle.plan_model.specs.declared.lines.PlannedLine.{PlannedLine}
use Rattle.schedule_laws.specs.Cells.{planned_event}
use Rattle.schedule_laws.specs.Data.{AreWritten, Blocks}
use Rattle.schedule_laws.specs.Premise.{AllArrive, Texts}
use Rattle.fh_base.specs.Members.{IsIn}

-- the event of one of a line's cells
abbrev pub event_of : Blocks → List PlannedLine → PlannedLine → ℕ → ℕ → AirCell
event_of blocks ps p symbol prb =
    planned_event blocks ps p.endpoint (cell_of (line_allocation p) symbol prb) (air_of p.endpoint.numerology p.line.slot symbol)

-- of a cell in which a `dl` line names an element, one event is reported once its symbol has started, and it is the plan's
abbrev pub EachCellRadiatesOnce : Type 0
EachCellRadiatesOnce =
    (c : Config) (lines : List PlanLine) (text : Texts) (blocks : Blocks) (arrivals : List Arrival) → AllArrive c lines text arrivals
    → AreWritten c (planned c.endpoints lines) text blocks
    → (p : PlannedLine) (symbol prb re : ℕ) (to : ℤ) → IsIn p (planned c.endpoints lines) → (line_allocation p).down ≡ true → (line_allocation p).idle ≡ false → re < 12
    → names (line_allocation p) (cell_of (line_allocation p) symbol prb) re ≡ true → air_of p.endpoint.numerology p.line.slot symbol ≤ℤ to
    → filter (same_cell (event_of blocks (planned c.endpoints lines) p symbol prb)) (ru_reported c arrivals to) ≡ event_of blocks (planned c.endpoints lines) p symbol prb ∷ []
