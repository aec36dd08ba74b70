-- The records of data give each PRB the block that it has (this project's profile).
use Rattle.std.specs.Prelude.{◌≡◌, ℕ, List, [], Option, Some, None}
use Rattle.air_source.specs.Units.{is_down}
use Rattle.air_source.specs.declared.events.Event.{Event}
use Rattle.air_source.specs.declared.events.Side.{Side}
use Rattle.window_config.specs.declared.config.Config.{Config}
use Rattle.unit_model.specs.Blocks.{block_at}
use Rattle.unit_model.specs.Reports.{timely_of}
use Rattle.unit_model.specs.declared.cells.Block.{Block}
use Rattle.unit_model.specs.declared.cells.Cell.{Cell}
use Rattle.unit_model.specs.Heard.{arrivals_heard}
use Rattle.explain_model.specs.declared.data.DataRecord.{DataRecord}
use Rattle.explain_model.specs.declared.keys.SymbolKey.{SymbolKey}
use Rattle.explain_model.specs.SilentReasons.{giver_of, kept}

-- the symbol of a cell at a unit
abbrev pub cell_key : Side → Cell → SymbolKey
cell_key side cell = record { side = side; ep = cell.ep; slot = cell.slot; symbol = cell.symbol }

-- the section id of a block
abbrev pub id_of_block : Option Block → Option ℕ
id_of_block None = None
id_of_block (Some b) = Some b.id

abbrev pub id_of_giver : Option DataRecord → Option ℕ
id_of_giver None = None
id_of_giver (Some r) = Some r.section

-- a cell of a unit has a block of all that arrived exactly where a record gives it one, and of the same section id
abbrev pub GiversAreBlocks : Type 0
GiversAreBlocks =
    (c : Config) (events : List Event) (side : Side) (cell : Cell) → cell.down ≡ is_down side
    → id_of_giver (giver_of (kept c events).given (cell_key side cell) cell.prb) ≡ id_of_block (block_at (timely_of side c (arrivals_heard side [] events)) cell)
