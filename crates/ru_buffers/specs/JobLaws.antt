-- How what a radio unit keeps goes on, as its messages are given and as time passes (this project's profile).
use Rattle.std.specs.Prelude.{◌≡◌, ◌≢◌, ℤ, ◌≤ℤ◌, ◌<ℤ◌, [], ◌∷◌, ◌++◌}
use Rattle.air_source.specs.declared.events.Side.TheVariants.{Ru}
use Rattle.window_config.specs.declared.config.Config.{Config}
use Rattle.unit_model.specs.Proper.{IsTime}
use Rattle.unit_model.specs.Reports.{accepted_of, ru_known}
use Rattle.unit_model.specs.Standing.{History, at_clock, due, handed, still_given}
use Rattle.unit_model.specs.declared.symbol_start.SymbolStart.{SymbolStart}
use Rattle.unit_laws.specs.Runs.{OffsetsFit}
use Rattle.unit_cells.specs.Cells.{cells_uplink}
use Rattle.unit_symbols.specs.Cursors.{GivenOne, IsFirstJob, Settled, left_in}
use Rattle.unit_symbols.specs.Symbols.{IsSymbol}
use Rattle.unit_symbols.specs.declared.cursor.JobCursor.{JobCursor}
use Rattle.unit_symbols.specs.declared.cursor.NextJob.{NextJob}
use Rattle.unit_memory.specs.declared.memory.UnitMemory.{UnitMemory}
use Rattle.ru_buffers.specs.Units.{IsReady, RadioKeeps}

-- a cursor that was settled at the clock serves as the one before
pub record IsSettled (c : Config) (m : UnitMemory) (clock : ℤ) (next : JobCursor) (h : History) : Type 0 where
  pub kept : RadioKeeps c m clock next h
  pub since : next.since.0 ≡ clock
  pub ready : IsReady m clock next

abbrev pub Settles : Type 0
Settles =
    (c : Config) (m : UnitMemory) (clock : ℤ) (cursor next : JobCursor) (h : History) → RadioKeeps c m clock cursor h → IsReady m clock cursor
    → Settled clock cursor next → IsSettled c m clock next h

-- the first message that is left was given
pub record IsGiven (c : Config) (m : UnitMemory) (clock : ℤ) (n : NextJob) (next : JobCursor) (h : History) : Type 0 where
  pub kept : RadioKeeps c m clock next (handed h n.job)
  pub first : still_given c (accepted_of c h.arrivals) h.given clock ≡ n.job ∷ still_given c (accepted_of c h.arrivals) (h.given ++ n.job ∷ []) clock

abbrev pub GivesFirst : Type 0
GivesFirst =
    (c : Config) (m : UnitMemory) (clock : ℤ) (cursor next : JobCursor) (n : NextJob) (h : History) → RadioKeeps c m clock cursor h
    → OffsetsFit n.symbol.endpoint.numerology → IsFirstJob m.cells cursor n → n.symbol.start.0 ≤ℤ clock → GivenOne m.cells cursor n next
    → IsGiven c m clock n next h

-- and no message is left of earlier symbols, if none was
abbrev pub ReadyOnceGiven : Type 0
ReadyOnceGiven =
    (c : Config) (m : UnitMemory) (clock : ℤ) (cursor next : JobCursor) (n : NextJob) (h : History) (to : ℤ) → RadioKeeps c m clock cursor h
    → OffsetsFit n.symbol.endpoint.numerology → IsFirstJob m.cells cursor n → GivenOne m.cells cursor n next
    → IsReady m to cursor → IsReady m to next

-- nothing is left of any symbol
abbrev pub NothingIsLeft : UnitMemory → JobCursor → Type 0
NothingIsLeft m cursor = (s : SymbolStart) → IsSymbol m.cells s → left_in (cells_uplink m.cells) cursor s ≡ []

-- then there is no message to be given, whatever time it is
abbrev pub NoneToGive : Type 0
NoneToGive =
    (c : Config) (m : UnitMemory) (clock : ℤ) (cursor : JobCursor) (h : History) (to : ℤ) → RadioKeeps c m clock cursor h
    → NothingIsLeft m cursor → still_given c (accepted_of c h.arrivals) h.given to ≡ []

-- nor is there one before the symbol of the first that is left
abbrev pub NoneBeforeFirst : Type 0
NoneBeforeFirst =
    (c : Config) (m : UnitMemory) (clock : ℤ) (cursor : JobCursor) (n : NextJob) (h : History) (to : ℤ) → RadioKeeps c m clock cursor h
    → IsFirstJob m.cells cursor n → to <ℤ n.symbol.start.0 → still_given c (accepted_of c h.arrivals) h.given to ≡ []

-- but there is one from the start of that symbol on
abbrev pub SomeFromFirst : Type 0
SomeFromFirst =
    (c : Config) (m : UnitMemory) (clock : ℤ) (cursor : JobCursor) (n : NextJob) (h : History) (to : ℤ) → RadioKeeps c m clock cursor h
    → OffsetsFit n.symbol.endpoint.numerology → IsFirstJob m.cells cursor n → n.symbol.start.0 ≤ℤ to
    → still_given c (accepted_of c h.arrivals) h.given to ≢ []

-- as time passes, and all that is due by then is reported, the same is kept
abbrev pub KeptLater : Type 0
KeptLater =
    (c : Config) (m : UnitMemory) (clock : ℤ) (cursor : JobCursor) (h : History) (to : ℤ) → RadioKeeps c m clock cursor h → IsTime to → clock ≤ℤ to
    → due Ru c.delays c.endpoints (ru_known c h.arrivals) h.reported to ≡ [] → RadioKeeps c m to cursor (at_clock h to)
