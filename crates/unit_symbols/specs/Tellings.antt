-- How far the cells of a symbol were told to an air (this project's profile).
use Rattle.std.specs.Prelude.{◌≡◌, ℕ, ◌<◌, if◌then◌else◌, List, [], ◌∷◌, map}
use Rattle.air_source.specs.declared.events.AirCell.{AirCell}
use Rattle.air_source.specs.declared.events.Event.{Event}
use Rattle.air_source.specs.declared.events.Event.TheVariants.{Cell as Reported}
use Rattle.air_source.specs.declared.events.Side.TheVariants.{Ru}
use Rattle.fh_base.specs.Lists.{each}
use Rattle.unit_model.specs.Radiated.{report_of}
use Rattle.unit_model.specs.declared.symbol_start.SymbolStart.{SymbolStart}
use Rattle.slot_rings.specs.Symbols.{lent_block, lent_claim, lent_reported}
use Rattle.slot_rings.specs.declared.symbol_cells.SymbolCells.{SymbolCells}
use Rattle.unit_symbols.specs.DueSymbols.{cell_in}

-- what is still to be reported of a symbol whose cells are lent, at a PRB and at the first so many
abbrev pub lent_told : SymbolCells → SymbolStart → ℕ → List AirCell
lent_told cells m prb =
    if lent_reported cells prb then [] else report_of Ru m.endpoint (cell_in m prb) m.start.0 (lent_claim cells prb) (lent_block cells prb)

abbrev pub lent_below : SymbolCells → SymbolStart → ℕ → List AirCell
lent_below cells m count = each 0 count (lent_told cells m)

-- an air stopped in the only cell that was to be told: it is not counted
pub record StopsInOne {A : Type 0} (stopped : A → Event → A → Type 0) (told : List AirCell) (counts_old counts_new : List ℕ) (before after : A) : Type 0 where
  pub cell : AirCell
  pub is : told ≡ cell ∷ []
  pub counts : counts_new ≡ counts_old
  pub stop : stopped before (Reported cell) after

-- an air stopped in the cell of a symbol at a PRB: it heard those before
pub record StopsAtPrb {A : Type 0} (grew : A → List Event → A → Type 0) (stopped : A → Event → A → Type 0) (cells : SymbolCells) (m : SymbolStart) (prb : ℕ)
    (before after : A) : Type 0 where
  pub within : prb < m.endpoint.prbs
  pub cell : AirCell
  pub is : lent_told cells m prb ≡ cell ∷ []
  pub middle : A
  pub heard : grew before (map Reported (lent_below cells m prb)) middle
  pub stop : stopped middle (Reported cell) after
