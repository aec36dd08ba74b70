-- What the calls of the intake say of the histories that it stands for (this project's profile).
use Rattle.std.specs.Prelude.{◌≡◌, ◌≢◌, ℤ, pos, ◌-ℤ◌, ◌<ℤ◌, ◌≤ℤ◌, List, [], length, Option, Some, None}
use Rattle.fh_base.specs.declared.values.Ticks.{Ticks}
use Rattle.window_config.specs.declared.config.Config.{Config}
use Rattle.unit_model.specs.Proper.{IsTime}
use Rattle.unit_model.specs.Standing.{History}
use Rattle.unit_model.specs.declared.allocations.Allocation.{Allocation}
use Rattle.unit_model.specs.declared.symbol_start.SymbolStart.{SymbolStart}
use Rattle.du_intake.specs.Cursors.{CellCursor}
use Rattle.du_intake.specs.Symbols.{symbol_at}
use Rattle.du_intake.specs.Units.{IntakeStands, cursor_by, intake_due_of}
use Rattle.du_intake.specs.declared.unit.Intake.{Intake}

-- the unit's clock
abbrev pub intake_clock : Intake → Ticks
intake_clock u = u.clock

-- the symbol and the PRB of the cell that the unit reports next
abbrev pub next_in : Intake → Option SymbolStart
next_in u = symbol_at u.memory.endpoints.items u.plan u.place.symbol

abbrev pub cursor_in : Intake → CellCursor
cursor_in u = cursor_by u.memory u.plan u.place

-- the unit stands for a history of a configuration, where these uplink allocations are planned
abbrev pub IntakeStandsFor : Config → List Allocation → Intake → History → Type 0
IntakeStandsFor c planned u h = IntakeStands c planned u.memory u.clock.0 u.wait.0 u.plan (length u.row.items) (cursor_in u) h

-- no cell whose moment is before a time is left to be reported
abbrev pub IsReportedBefore : Config → List Allocation → History → ℤ → Type 0
IsReportedBefore c planned h at = intake_due_of c planned h (at -ℤ pos 1) ≡ []

-- it stands for some history, and all cells whose moments are before a time are reported
pub record MayTakeAt (at : ℤ) (u : Intake) : Type 0 where
  pub config : Config
  pub planned : List Allocation
  pub history : History
  pub stands : IntakeStandsFor config planned u history
  pub reported : IsReportedBefore config planned history at

-- the least moment of a planned cell that was not reported
pub record IsLeastIntakeMoment (c : Config) (planned : List Allocation) (h : History) (t : ℤ) : Type 0 where
  pub before : (to : ℤ) → to <ℤ t → intake_due_of c planned h to ≡ []
  pub at : intake_due_of c planned h t ≢ []

abbrev pub IsIntakeDue : Config → List Allocation → History → Option Ticks → Type 0
IsIntakeDue c planned h None = (to : ℤ) → intake_due_of c planned h to ≡ []
IsIntakeDue c planned h (Some t) = IsLeastIntakeMoment c planned h t.0

-- It may take a frame at a time that is not before its clock, where every cell whose moment is before that time was reported.
pub record IntakeMayTake (u : Intake) (c : Config) (planned : List Allocation) (at : ℤ) (h : History) : Type 0 where
  pub stands : IntakeStandsFor c planned u h
  pub reported : IsReportedBefore c planned h at
  pub order : (intake_clock u).0 ≤ℤ at
  pub time : IsTime at
