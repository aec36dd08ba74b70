-- The symbol of an endpoint that a line of a summary speaks of (this project's profile).
use Rattle.std.specs.Prelude.{◌==◌, ◌&&◌, Bool}
use Rattle.std.specs.Ordering.{int_eq}
use Rattle.air_source.specs.declared.events.AirCell.{AirCell}
use Rattle.report_airs.specs.declared.places.SymbolPlace.{SymbolPlace}
use Rattle.air_source.specs.Units.{same_side}

-- the symbol of a cell
abbrev pub place_of : AirCell → SymbolPlace
place_of c = record { side = c.side; at = c.at; id = c.id; slot = c.slot; symbol = c.symbol }

-- the same unit, time, endpoint, slot and symbol
abbrev pub same_place : SymbolPlace → SymbolPlace → Bool
same_place a b =
    same_side a.side b.side && int_eq a.at.0 b.at.0 && (a.id == b.id) && int_eq a.slot.frame b.slot.frame && (a.slot.subframe == b.slot.subframe) && (a.slot.slot == b.slot.slot) && (a.symbol == b.symbol)
