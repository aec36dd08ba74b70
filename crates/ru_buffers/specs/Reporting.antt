-- What a radio unit is still to report, by what its memory holds: what the definitions tell over all that was received is told by
-- look-up of the symbols that start after the clock (this project's profile).
use Rattle.std.specs.Prelude.{◌≡◌, ◌≢◌, ℤ, true, false, ◌<ℤ◌, ◌≤ℤ◌, List, [], ◌++◌}
use Rattle.air_source.specs.declared.events.AirCell.{AirCell}
use Rattle.air_source.specs.declared.events.Side.TheVariants.{Ru}
use Rattle.window_config.specs.declared.config.Config.{Config}
use Rattle.unit_model.specs.Order.{comes_before}
use Rattle.unit_model.specs.Reports.{ru_known}
use Rattle.unit_model.specs.Standing.{History, due, heard}
use Rattle.unit_model.specs.declared.symbol_start.SymbolStart.{SymbolStart}
use Rattle.unit_laws.specs.Runs.{OffsetsFit}
use Rattle.unit_cells.specs.Cells.{CellsValue}
use Rattle.unit_laws.specs.First.{FirstIsFirst, NothingIsNothing}
use Rattle.unit_symbols.specs.declared.cursor.JobCursor.{JobCursor}
use Rattle.unit_memory.specs.declared.memory.UnitMemory.{UnitMemory}
use Rattle.unit_symbols.specs.DueSymbols.{CountsTold, ReportsTold, is_left, left_at}
use Rattle.unit_symbols.specs.Symbols.{IsSymbol}
use Rattle.ru_buffers.specs.Units.{RadioKeeps}

-- what is due up to a time, over all that was received
abbrev pub due_of : Config → History → ℤ → List AirCell
due_of c h to = due Ru c.delays c.endpoints (ru_known c h.arrivals) h.reported to

-- a symbol that starts after a clock, and of which something is left
pub record IsLeftAfter (v : CellsValue) (clock : ℤ) (x : SymbolStart) : Type 0 where
  pub symbol : IsSymbol v x
  pub after : clock <ℤ x.start.0
  pub left : is_left v x ≡ true

-- a symbol that starts after a clock; something is left of none that is before it
pub record IsFirstLeft (v : CellsValue) (clock : ℤ) (s : SymbolStart) : Type 0 where
  pub symbol : IsSymbol v s
  pub after : clock <ℤ s.start.0
  pub first : (x : SymbolStart) → IsLeftAfter v clock x → comes_before x s ≡ false

-- it, where something is left of it
pub record IsFoundLeft (v : CellsValue) (clock : ℤ) (s : SymbolStart) : Type 0 where
  pub was : IsLeftAfter v clock s
  pub first : (x : SymbolStart) → IsLeftAfter v clock x → comes_before x s ≡ false

-- all that is due up to a time begins with these
pub record DueBegins (c : Config) (h : History) (to : ℤ) (begin : List AirCell) : Type 0 where
  pub rest : List AirCell
  pub is : due_of c h to ≡ begin ++ rest

-- what is left of the first symbol is due first
abbrev pub FirstIsDue : Type 0
FirstIsDue =
    (c : Config) (m : UnitMemory) (clock : ℤ) (cursor : JobCursor) (h : History) (s : SymbolStart) (to : ℤ) → FirstIsFirst AirCell
    → RadioKeeps c m clock cursor h → OffsetsFit s.endpoint.numerology → IsFirstLeft m.cells clock s → s.start.0 ≤ℤ to
    → DueBegins c h to (left_at m.cells s)

-- where nothing is left of symbols that start up to a time, nothing is due
abbrev pub NothingIsDue : Type 0
NothingIsDue =
    (c : Config) (m : UnitMemory) (clock : ℤ) (cursor : JobCursor) (h : History) (to : ℤ) → NothingIsNothing AirCell → RadioKeeps c m clock cursor h
    → ((x : SymbolStart) → IsLeftAfter m.cells clock x → to <ℤ x.start.0) → due_of c h to ≡ []

-- so nothing is due before the first symbol starts
abbrev pub NothingBeforeFirst : Type 0
NothingBeforeFirst =
    (c : Config) (m : UnitMemory) (clock : ℤ) (cursor : JobCursor) (h : History) (s : SymbolStart) (to : ℤ) → NothingIsNothing AirCell
    → RadioKeeps c m clock cursor h → IsFirstLeft m.cells clock s → to <ℤ s.start.0 → due_of c h to ≡ []

-- and something is when it starts
abbrev pub SomethingAtFirst : Type 0
SomethingAtFirst =
    (c : Config) (m : UnitMemory) (clock : ℤ) (cursor : JobCursor) (h : History) (s : SymbolStart) → FirstIsFirst AirCell
    → RadioKeeps c m clock cursor h → OffsetsFit s.endpoint.numerology → IsFirstLeft m.cells clock s → is_left m.cells s ≡ true
    → due_of c h s.start.0 ≢ []

-- the first of what is left of a symbol was heard: it is set as reported and counted
pub record HasReported (s : SymbolStart) (told : List AirCell) (old new : UnitMemory) : Type 0 where
  pub more : List AirCell
  pub left : left_at old.cells s ≡ told ++ more
  pub reports : ReportsTold s told old.cells new.cells
  pub counts : CountsTold told old.counters new.counters
  pub endpoints : new.endpoints ≡ old.endpoints
  pub assembly : new.assembly ≡ old.assembly

-- then the unit keeps what it kept
abbrev pub KeepsReported : Type 0
KeepsReported =
    (c : Config) (old new : UnitMemory) (clock : ℤ) (cursor : JobCursor) (h : History) (s : SymbolStart) (told : List AirCell) → RadioKeeps c old clock cursor h
    → IsSymbol old.cells s → clock <ℤ s.start.0 → HasReported s told old new → RadioKeeps c new clock cursor (heard h told)

-- and where it is the first symbol's, these are the first of what was due, and the rest is due now
abbrev pub DueGoesOn : Type 0
DueGoesOn =
    (c : Config) (m : UnitMemory) (clock : ℤ) (cursor : JobCursor) (h : History) (s : SymbolStart) (told more : List AirCell) (to : ℤ) → FirstIsFirst AirCell
    → RadioKeeps c m clock cursor h → OffsetsFit s.endpoint.numerology → IsFirstLeft m.cells clock s → s.start.0 ≤ℤ to → left_at m.cells s ≡ told ++ more
    → due_of c h to ≡ told ++ due_of c (heard h told) to
