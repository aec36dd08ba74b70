-- A slot that has its place (this project's profile).
use Rattle.std.specs.Prelude.{◌≡◌, ℕ, ◌<◌, true, length, Some}
use Rattle.unit_model.specs.Proper.{IsSlot}
use Rattle.unit_model.specs.Starts.{start_at}
use Rattle.unit_model.specs.declared.symbol_start.SymbolStart.{SymbolStart}
use Rattle.slot_rings.specs.Rings.{has_slot, place_index}
use Rattle.unit_cells.specs.Cells.{CellsValue, ring_of}
use Rattle.unit_symbols.specs.declared.places.SlotPlace.{SlotPlace}

pub record IsPlace (v : CellsValue) (p : SlotPlace) : Type 0 where
  pub there : ring_of v p.ep ≡ Some p.ring.now
  pub slot_is : IsSlot p.ring.now.endpoint.numerology p.slot
  pub has : has_slot p.ring.now p.slot ≡ true
  pub index_is : place_index p.ring.now p.slot ≡ p.index
  pub within : p.index < length p.ring.now.places

-- a symbol of it
abbrev pub start_in : SlotPlace → ℕ → SymbolStart
start_in p symbol = start_at p.ep p.ring.now.endpoint p.slot symbol
