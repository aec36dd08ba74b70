-- What the calls of a radio unit say of the histories that it stands for (this project's profile).
use Rattle.std.specs.Prelude.{◌≡◌, ℤ, ◌<ℤ◌, List, [], ◌∷◌, ◌++◌, map, Option, Some, None}
use Rattle.air_source.specs.declared.events.AirCell.{AirCell}
use Rattle.air_source.specs.declared.events.Event.{Event}
use Rattle.air_source.specs.declared.events.Event.TheVariants.{Cell as Reported}
use Rattle.fh_base.specs.Least.{IsLeastOf}
use Rattle.fh_base.specs.declared.values.Ticks.{Ticks}
use Rattle.window_config.specs.declared.config.Config.{Config}
use Rattle.unit_model.specs.Standing.{History, IsLiveAt, StandsBy, handed, heard, owed_until}
use Rattle.unit_model.specs.declared.allocations.Allocation.{Allocation}
use Rattle.unit_model.specs.declared.jobs.UplinkJob.{UplinkJob}
use Rattle.unit_model.specs.declared.symbol_start.SymbolStart.{SymbolStart}
use Rattle.unit_cells.specs.Cells.{CellsValue, cells_uplink}
use Rattle.unit_symbols.specs.Cursors.{IsFirstJob, left_in}
use Rattle.unit_symbols.specs.Symbols.{IsSymbol}
use Rattle.unit_symbols.specs.declared.cursor.JobCursor.{JobCursor}
use Rattle.unit_symbols.specs.declared.cursor.NextJob.{NextJob}
use Rattle.ru_buffers.specs.Reporting.{IsFoundLeft, IsLeftAfter, due_of}
use Rattle.ru_buffers.specs.Units.{IsReady, RadioKeeps, view_of}
use Rattle.ru_buffers.specs.declared.unit.Ru.{Ru}

-- the unit's clock
abbrev pub radio_clock : Ru → Ticks
radio_clock u = u.clock

-- the first symbol that starts after a clock and of which something is left, as a search finds it; none where there is none
abbrev pub IsNextSymbol : CellsValue → ℤ → Option SymbolStart → Type 0
IsNextSymbol v clock None = (x : SymbolStart) → IsLeftAfter v clock x → ⊥
IsNextSymbol v clock (Some s) = IsFoundLeft v clock s

-- the first message that was not given, as a search finds it; none where there is none
abbrev pub IsNextMessage : CellsValue → JobCursor → Option NextJob → Type 0
IsNextMessage v cursor None = (s : SymbolStart) → IsSymbol v s → left_in (cells_uplink v) cursor s ≡ []
IsNextMessage v cursor (Some n) = IsFirstJob v cursor n

-- The unit stands for a history of a configuration: what it keeps of the next moment is what a search would find at its clock.
pub record StandsFor (c : Config) (u : Ru) (h : History) : Type 0 where
  pub answers : StandsBy (IsLiveAt c h.clock) c (view_of u.memory u.clock.0 u.cursor) h
  pub kept : RadioKeeps c u.memory u.clock.0 u.cursor h
  pub symbol : IsNextSymbol u.memory.cells u.clock.0 u.symbol
  pub message : IsNextMessage u.memory.cells u.cursor u.message

-- it stands for some history
pub record StandsForSome (u : Ru) : Type 0 where
  pub config : Config
  pub history : History
  pub stands : StandsFor config u history

-- no message is left of a symbol that starts before the unit's clock
abbrev pub HasGivenPast : Ru → Type 0
HasGivenPast u = IsReady u.memory u.clock.0 u.cursor

-- an air stopped in a cell: the unit stands for those before it as reported, and the cell is the next to be reported
pub record StopsAtDue {A : Type 0} (grew : A → List Event → A → Type 0) (stopped : A → Event → A → Type 0) (c : Config) (h : History) (to : ℤ)
    (new : Ru) (before after : A) : Type 0 where
  pub told : List AirCell
  pub cell : AirCell
  pub rest : List AirCell
  pub is : due_of c h to ≡ told ++ cell ∷ rest
  pub stands : StandsFor c new (heard h told)
  pub middle : A
  pub heard_is : grew before (map Reported told) middle
  pub stop : stopped middle (Reported cell) after

-- the first message that is to be given by the clock, or none where there is none
pub record GivesJob (c : Config) (h : History) (job : UplinkJob) (new : Ru) : Type 0 where
  pub first : owed_until c h h.clock ≡ job ∷ owed_until c (handed h job) h.clock
  pub stands : StandsFor c new (handed h job)

-- nothing is to be reported, and no message to be given, up to a time
pub record IsQuietTo (c : Config) (h : History) (to : ℤ) : Type 0 where
  pub cells : due_of c h to ≡ []
  pub messages : owed_until c h to ≡ []

-- the least moment of a cell or a message that is still to follow
pub record IsLeastMoment (c : Config) (h : History) (t : ℤ) : Type 0 where
  pub before : (to : ℤ) → to <ℤ t → IsQuietTo c h to
  pub at : IsQuietTo c h t → ⊥

abbrev pub IsDue : Config → History → Option Ticks → Type 0
IsDue c h None = (to : ℤ) → IsQuietTo c h to
IsDue c h (Some t) = IsLeastMoment c h t.0

-- the parts of it: the least moment of a cell, and that of a message
abbrev pub IsCellMoment : Config → History → Option Ticks → Type 0
IsCellMoment c h t = IsLeastOf (λ to. due_of c h to ≡ []) t

abbrev pub IsMessageMoment : Config → History → Option Ticks → Type 0
IsMessageMoment c h t = IsLeastOf (λ to. owed_until c h to ≡ []) t

-- It may take a frame at its clock, where no message is left of a symbol that starts before it. What is planned says nothing to it.
pub record RadioMayTake (u : Ru) (c : Config) (planned : List Allocation) (at : ℤ) (h : History) : Type 0 where
  pub stands : StandsFor c u h
  pub given : HasGivenPast u
  pub clock : (radio_clock u).0 ≡ at
