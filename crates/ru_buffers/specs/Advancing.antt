-- How a radio unit's reports go on, symbol by symbol (this project's profile).
use Rattle.std.specs.Prelude.{◌≡◌, ℕ, suc, ℤ, pos, neg_ℤ, ◌+◌, ◌-◌, ◌*◌, ◌^◌, true, ◌≤ℤ◌, ◌<ℤ◌, List, [], ◌++◌, map, Option, Some, None}
use Rattle.std.specs.Int.{int_gap}
use Rattle.air_source.specs.declared.events.AirCell.{AirCell}
use Rattle.air_source.specs.declared.events.Event.{Event}
use Rattle.air_source.specs.declared.events.Event.TheVariants.{Cell as Reported}
use Rattle.window_config.specs.declared.config.Config.{Config}
use Rattle.unit_model.specs.Order.{comes_before}
use Rattle.unit_model.specs.Standing.{History, heard}
use Rattle.unit_model.specs.declared.symbol_start.SymbolStart.{SymbolStart}
use Rattle.unit_cells.specs.Cells.{CellsValue}
use Rattle.ru_buffers.specs.Calls.{StandsFor}
use Rattle.ru_buffers.specs.Reporting.{IsLeftAfter, due_of}
use Rattle.ru_buffers.specs.declared.unit.Ru.{Ru}

-- the first of what was due was heard, and the rest is due now
pub record GoesOn {A : Type 0} (grew : A → List Event → A → Type 0) (c : Config) (h : History) (to : ℤ) (new : Ru) (before after : A) : Type 0 where
  pub told : List AirCell
  pub is : due_of c h to ≡ told ++ due_of c (heard h told) to
  pub stands : StandsFor c new (heard h told)
  pub heard_is : grew before (map Reported told) after

-- a symbol starts after a time, if there is one
abbrev pub StartsLater : ℤ → Option SymbolStart → Type 0
StartsLater to None = Unit {0}
StartsLater to (Some s) = to <ℤ s.start.0

-- nothing is due, and nothing changed
pub record IsOver {A : Type 0} (c : Config) (h : History) (to : ℤ) (old new : Ru) (before after : A) : Type 0 where
  pub due : due_of c h to ≡ []
  pub unit : new ≡ old
  pub air : after ≡ before
  pub later : StartsLater to old.symbol

abbrev pub AfterReport : {A : Type 0} → (A → List Event → A → Type 0) → Config → History → ℤ → Ru → Ru → A → A → Option SymbolStart → Type 0
AfterReport grew c h to old new before after None = IsOver c h to old new before after
AfterReport grew c h to old new before after (Some m) = GoesOn grew c h to new before after

-- a symbol was the first with something left, and what is left is of symbols that are after it
pub record IsNextReport (clock to : ℤ) (m : SymbolStart) (old new : CellsValue) : Type 0 where
  pub was : IsLeftAfter old clock m
  pub by : m.start.0 ≤ℤ to
  pub rest : (x : SymbolStart) → IsLeftAfter new clock x → comes_before m x ≡ true

abbrev pub InOrder : ℤ → ℤ → CellsValue → CellsValue → Option SymbolStart → Type 0
InOrder clock to old new None = Unit {0}
InOrder clock to old new (Some m) = IsNextReport clock to m old new

-- the place of a symbol in the order in which symbols are told, as a number
unfoldable pub rank_of : SymbolStart → ℕ
rank_of m =
    ((((int_gap (neg_ℤ (pos (2 ^ 57))) m.start.0 * 2 ^ 64 + m.ep) * 2 ^ 22 + int_gap (neg_ℤ (pos (2 ^ 21))) m.slot.frame) * 16 + m.slot.subframe) * 256 + m.slot.slot) * 256 + m.symbol

-- it is more than that of each symbol that starts up to a time
unfoldable pub rank_past : ℤ → ℕ
rank_past to = (int_gap (neg_ℤ (pos (2 ^ 57))) to + 1) * (2 ^ 64 * 2 ^ 22 * 16 * 256 * 256)

-- so many places are left after the last symbol that was reported
abbrev pub ranks_left : ℤ → Option SymbolStart → ℕ
ranks_left to None = suc (rank_past to)
ranks_left to (Some last) = rank_past to - rank_of last

-- all that was due was heard, and nothing is due any more
pub record ToldAll {A : Type 0} (grew : A → List Event → A → Type 0) (c : Config) (h : History) (to : ℤ) (new : Ru) (before after : A) : Type 0 where
  pub stands : StandsFor c new (heard h (due_of c h to))
  pub over : due_of c (heard h (due_of c h to)) to ≡ []
  pub later : StartsLater to new.symbol
  pub heard_is : grew before (map Reported (due_of c h to)) after
