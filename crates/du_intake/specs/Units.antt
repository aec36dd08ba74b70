-- What the distributed unit keeps in fixed memory, and the histories that it stands for: it answers for the slots that are live (this
-- project's profile).
use Rattle.std.specs.Prelude.{◌≡◌, ℕ, ℤ, ◌<◌, ◌≤◌, ◌≤ℤ◌, false, true, All, List, [], IfSome}
use Rattle.std.specs.List.{list_any}
use Rattle.fh_base.specs.declared.values.Slot.{Slot}
use Rattle.air_source.specs.declared.events.AirCell.{AirCell}
use Rattle.air_source.specs.declared.events.Side.TheVariants.{Du}
use Rattle.window_config.specs.declared.config.Config.{Config}
use Rattle.window_config.specs.declared.endpoints.EndpointConfig.{EndpointConfig}
use Rattle.unit_model.specs.Claims.{claim_at}
use Rattle.unit_model.specs.Counts.{cells_counted}
use Rattle.unit_model.specs.Proper.{IsTime}
use Rattle.unit_model.specs.Radiated.{first_clock, used_mask, wait_of}
use Rattle.unit_model.specs.Reports.{du_known}
use Rattle.unit_model.specs.Sides.{IsLiveFor}
use Rattle.unit_model.specs.Standing.{AreDifferent, History, IsCell, IsOwed, Kept, StandsByPlan, cell_heard, due, past_of}
use Rattle.unit_model.specs.declared.allocations.Allocation.{Allocation}
use Rattle.unit_model.specs.declared.cells.Cell.{Cell}
use Rattle.unit_cells.specs.Cells.{cells_block}
use Rattle.unit_memory.specs.Memory.{Holds}
use Rattle.unit_memory.specs.declared.memory.UnitMemory.{UnitMemory}
use Rattle.unit_model.specs.Starts.{start_at}
use Rattle.du_intake.specs.Cursors.{ArePlanned, CellCursor, HasStillLeft, IsNamed, is_behind}
use Rattle.du_intake.specs.Lines.{claim_by}
use Rattle.du_intake.specs.Symbols.{IsListed, symbol_at}
use Rattle.du_intake.specs.declared.lines.UplinkLine.{UplinkLine}
use Rattle.du_intake.specs.declared.plan.Place.{Place}
use Rattle.du_intake.specs.declared.plan.UplinkPlan.{UplinkPlan}
use Rattle.fh_base.specs.declared.carrier.TheConstants.{CARRIER_PRBS}

-- what is due up to a time, over all that was received
abbrev pub intake_due_of : Config → List Allocation → History → ℤ → List AirCell
intake_due_of c planned h to = due Du c.delays c.endpoints (du_known c planned h.arrivals) h.reported to

-- what contracts see of a unit's memory, its clock and its lines
abbrev pub kept_of : UnitMemory → ℤ → List UplinkLine → Kept
kept_of m clock ls = record {
  clock = clock;
  counts = m.counters;
  known = record { claims = claim_by ls; blocks = cells_block m.cells };
  assembly = m.assembly;
}

-- the cell at a place of a plan
abbrev pub cursor_by : UnitMemory → UplinkPlan → Place → CellCursor
cursor_by m p place = record { next = symbol_at m.endpoints.items p place.symbol; prb = place.prb }

-- What the next calls rest on.
pub record IntakeKeeps (c : Config) (planned : List Allocation) (m : UnitMemory) (clock : ℤ) (cursor : CellCursor) (h : History) : Type 0 where
  pub holds : Holds Du c h.clock m h.arrivals (cells_counted h.reported)
  pub clock_is : clock ≡ h.clock
  pub time : IsTime h.clock
  pub begun : first_clock ≤ℤ h.clock
  pub past : intake_due_of c planned h (past_of Du h.clock) ≡ []
  pub told : (e : EndpointConfig) (cell : Cell) → IsCell c e cell → cell.down ≡ false → list_any (cell_heard e cell) h.reported ≡ true
      → 0 < used_mask (claim_at planned cell)
  pub differ : AreDifferent h.reported
  pub owed : All (IsOwed Du c (du_known c planned h.arrivals)) h.reported
  pub given : h.given ≡ []
  pub plan : ArePlanned c planned
  -- the cells that are before the cursor were reported, and no others
  pub reports : (e : EndpointConfig) (cell : Cell) → IsCell c e cell → cell.down ≡ false → 0 < used_mask (claim_at planned cell)
      → list_any (cell_heard e cell) h.reported ≡ is_behind cursor.next cursor.prb (start_at cell.ep e cell.slot cell.symbol) cell.prb
  pub named : IfSome cursor.next (IsNamed planned)

-- the slots that are live at a clock
abbrev pub IsLiveAtIntake : Config → ℤ → ℕ → Slot → Type 0
IsLiveAtIntake c clock ep slot = IsLiveFor Du c clock ep slot

-- The unit stands for a history: it answers for the slots that are live as the definitions do over all that was received, and its
-- claims are those of the plan.
pub record IntakeStands (c : Config) (planned : List Allocation) (m : UnitMemory) (clock wait : ℤ) (plan : UplinkPlan) (room : ℕ) (cursor : CellCursor) (h : History) : Type 0 where
  pub answers : StandsByPlan (IsLiveAtIntake c h.clock) c planned (kept_of m clock plan.lines.items) h
  pub kept : IntakeKeeps c planned m clock cursor h
  pub wait_is : wait ≡ wait_of Du c.delays
  -- a cell is planned of the cursor's symbol, from its PRB on
  pub left : IfSome cursor.next (HasStillLeft planned cursor.prb)
  pub plan_is : IsListed c planned plan
  -- the row of claims has room for the PRBs of every carrier
  pub room_is : CARRIER_PRBS ≤ room
