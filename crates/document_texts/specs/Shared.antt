-- The text of a shared cell (this project's profile).
use Rattle.std.specs.Prelude.{ℕ, zero, suc, List, [], ◌++◌}
use Rattle.air_source.specs.declared.events.AirCell.{AirCell}
use Rattle.air_source.specs.declared.events.Event.{Event}
use Rattle.air_source.specs.declared.events.Side.TheVariants.{Du}
use Rattle.fh_document.specs.declared.document.Document.{Document}
use Rattle.fronthaul_replay.specs.Replaying.{events_of}
use Rattle.unit_model.specs.Heard.{cells_heard}
use Rattle.shared_cell.specs.Combined.{combined}
use Rattle.document_texts.specs.Lines.{mixes_text, unit_text}
use Rattle.document_texts.specs.UnitText.{unit_events_text}
use Rattle.document_texts.specs.Units.{unit_of}

-- what a unit writes of these events: the line above them, and the lines of the radio unit's cells and counters
abbrev pub lines_with : ℕ → List Event → List ℕ
lines_with unit events = unit_text unit ++ unit_events_text events

-- what it writes of its document's events
unfoldable pub unit_lines : Document → ℕ → ℕ → List ℕ
unit_lines d step unit = lines_with unit (events_of (unit_of d unit step))

-- what the first n units write
unfoldable pub units_text : Document → ℕ → ℕ → List ℕ
units_text d step zero = []
units_text d step (suc n) = units_text d step n ++ unit_lines d step n

-- the uplink cells that a unit's distributed unit takes in, in the order of its report
unfoldable pub unit_cells : Document → ℕ → ℕ → List AirCell
unit_cells d step unit = cells_heard Du (events_of (unit_of d unit step))

-- those of the first n units, one unit after the other
unfoldable pub units_cells : Document → ℕ → ℕ → List AirCell
units_cells d step zero = []
units_cells d step (suc n) = units_cells d step n ++ unit_cells d step n

-- the text: what the units write, and the lines of the cells that are combined of theirs
unfoldable pub shared_text : Document → ℕ → ℕ → List ℕ
shared_text d count step = units_text d step count ++ mixes_text (combined (units_cells d step count))
