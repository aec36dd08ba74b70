-- The symbol that the line of a cell begins with (this project's profile), and what is after it.
use Rattle.std.specs.Prelude.{◌==◌, ◌&&◌, Bool, ℕ, List, ◌++◌, codes}
use Rattle.std.specs.Ordering.{int_eq}
use Rattle.air_source.specs.declared.events.AirCell.{AirCell}
use Rattle.air_source.specs.Units.{way_text, same_side}
use Rattle.fh_base.specs.Words.{spaced_text, spaced_signed_text, hex4_text, hex3_text}
use Rattle.air_source.specs.declared.symbols.CellSymbol.{CellSymbol}
use Rattle.air_source.specs.CellLines.{slot_text, samples_text}

-- the symbol of a cell
abbrev pub symbol_of : AirCell → CellSymbol
symbol_of c = record { side = c.side; at = c.at; id = c.id; slot = c.slot; symbol = c.symbol }

-- the same unit, time, endpoint, slot and symbol
abbrev pub same_symbol : CellSymbol → CellSymbol → Bool
same_symbol a b =
    same_side a.side b.side && int_eq a.at.0 b.at.0 && (a.id == b.id) && int_eq a.slot.frame b.slot.frame && (a.slot.subframe == b.slot.subframe) && (a.slot.slot == b.slot.slot) && (a.symbol == b.symbol)

-- the words before the PRB, which the lines of all cells of a symbol have in common
unfoldable pub symbol_text : CellSymbol → List ℕ
symbol_text s = way_text s.side ++ spaced_signed_text s.at.0 ++ codes " " ++ hex4_text s.id ++ slot_text s.slot ++ spaced_text s.symbol

-- the PRB, the section, the mask and the samples
abbrev pub rest_text : AirCell → List ℕ
rest_text c = spaced_text c.prb ++ spaced_text c.section ++ codes " " ++ hex3_text c.mask ++ samples_text c.mask c.block ++ codes "\n"
