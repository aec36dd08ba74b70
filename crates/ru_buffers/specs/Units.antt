-- What a radio unit keeps in fixed memory, and the histories that it stands for: it answers for the slots that are live (this
-- project's profile).
use Rattle.std.specs.Prelude.{◌≡◌, ℤ, pos, ◌<◌, ◌+ℤ◌, ◌-ℤ◌, ◌≤ℤ◌, true, All, List, [], ◌++◌, Some}
use Rattle.std.specs.List.{list_any}
use Rattle.air_source.specs.declared.events.Side.TheVariants.{Ru}
use Rattle.window_config.specs.declared.config.Config.{Config}
use Rattle.window_config.specs.declared.endpoints.EndpointConfig.{EndpointConfig}
use Rattle.unit_model.specs.Counts.{cells_counted}
use Rattle.unit_model.specs.Proper.{IsTime}
use Rattle.unit_model.specs.Radiated.{first_clock, used_mask}
use Rattle.unit_model.specs.Reports.{accepted_of, ru_known}
use Rattle.unit_model.specs.Standing.{AreDifferent, History, IsCell, IsLiveAt, IsOwed, StandsBy, View, cell_heard, due, still_given}
use Rattle.unit_model.specs.Sweeps.{sweep}
use Rattle.unit_model.specs.Uplink.{jobs}
use Rattle.unit_model.specs.declared.cells.Cell.{Cell}
use Rattle.unit_model.specs.declared.jobs.UplinkJob.{UplinkJob}
use Rattle.unit_model.specs.declared.symbol_start.SymbolStart.{SymbolStart}
use Rattle.unit_cells.specs.Cells.{CellsValue, cells_reported, cells_uplink, endpoints_of}
use Rattle.unit_symbols.specs.Cursors.{jobs_left}
use Rattle.unit_symbols.specs.declared.cursor.JobCursor.{JobCursor}
use Rattle.unit_memory.specs.Memory.{Holds}
use Rattle.unit_memory.specs.declared.memory.UnitMemory.{UnitMemory}
use Rattle.unit_symbols.specs.DueSymbols.{known_by}

-- the messages up to a time that are left to be given, by look-up
unfoldable pub left_up_to : CellsValue → JobCursor → ℤ → List UplinkJob
left_up_to v cursor to = sweep (jobs_left (cells_uplink v) cursor) (endpoints_of v) first_clock (to +ℤ pos 1)

-- what contracts see of a unit's memory, its clock, and how far its messages were given
abbrev pub view_of : UnitMemory → ℤ → JobCursor → View
view_of m clock cursor = record {
  kept = record { clock = clock; counts = m.counters; known = known_by m.cells; assembly = m.assembly };
  uplink = cells_uplink m.cells;
  reported = cells_reported m.cells;
  jobs = left_up_to m.cells cursor;
}

-- a cursor is not after a time
abbrev pub IsWithin : ℤ → JobCursor → Type 0
IsWithin clock cursor = (m : SymbolStart) → cursor.last ≡ Some m → m.start.0 ≤ℤ clock

-- What the next calls rest on. The memory answers for the slots that were live since the cursor's time, of which messages may be
-- left.
pub record RadioKeeps (c : Config) (m : UnitMemory) (clock : ℤ) (cursor : JobCursor) (h : History) : Type 0 where
  pub holds : Holds Ru c cursor.since.0 m h.arrivals (cells_counted h.reported)
  pub clock_is : clock ≡ h.clock
  pub time : IsTime h.clock
  pub begun : first_clock ≤ℤ cursor.since.0
  pub since : cursor.since.0 ≤ℤ h.clock
  pub within : IsWithin h.clock cursor
  pub reports : (e : EndpointConfig) (cell : Cell) → IsCell c e cell → cell.down ≡ true → IsLiveAt c cursor.since.0 cell.ep cell.slot
      → cells_reported m.cells cell ≡ list_any (cell_heard e cell) h.reported
  pub past : due Ru c.delays c.endpoints (ru_known c h.arrivals) h.reported h.clock ≡ []
  pub told : (e : EndpointConfig) (cell : Cell) → IsCell c e cell → cell.down ≡ true → list_any (cell_heard e cell) h.reported ≡ true
      → 0 < used_mask ((ru_known c h.arrivals).claims cell)
  pub differ : AreDifferent h.reported
  pub owed : All (IsOwed Ru c (ru_known c h.arrivals)) h.reported
  pub left : (to : ℤ) → left_up_to m.cells cursor to ≡ still_given c (accepted_of c h.arrivals) h.given to
  pub given : h.given ++ still_given c (accepted_of c h.arrivals) h.given h.clock ≡ jobs c.endpoints (accepted_of c h.arrivals) h.clock

-- no message is left of a symbol that starts before the clock
abbrev pub IsReady : UnitMemory → ℤ → JobCursor → Type 0
IsReady m clock cursor = left_up_to m.cells cursor (clock -ℤ pos 1) ≡ []

-- The unit stands for a history: it answers for the slots that are live as the definitions do over all that was received.
pub record RadioStands (c : Config) (m : UnitMemory) (clock : ℤ) (cursor : JobCursor) (h : History) : Type 0 where
  pub answers : StandsBy (IsLiveAt c h.clock) c (view_of m clock cursor) h
  pub kept : RadioKeeps c m clock cursor h
