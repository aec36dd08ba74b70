-- The blocks of cells where sections of data may be told only in part.
use Rattle.std.specs.Prelude.{◌-◌, ◌≤◌, Bool, ◌&&◌, nat_lt, if◌then◌else◌, List, [], ◌∷◌, length, Option, Some, None}
use Rattle.unit_model.specs.Blocks.{block_of, data_covers, data_prb_count, first_data_prb}
use Rattle.fh_base.specs.Lists.{or_else}
use Rattle.unit_model.specs.declared.cells.Block.{Block}
use Rattle.unit_model.specs.declared.cells.Cell.{Cell}
use Rattle.unit_model.specs.declared.decoded.UserSection.{UserSection}

-- the blocks of a section reach as far as the cell
abbrev pub reaches : UserSection → Cell → Bool
reaches d cell = nat_lt (cell.prb - first_data_prb d) (length d.blocks)

abbrev pub told_block_in : UserSection → Cell → Option Block
told_block_in d cell = if data_covers d cell && reaches d cell then Some (block_of d cell) else None

-- The block of a cell, where these were received on time, the newest first: that of the first of them that covers it and reaches it.
unfoldable pub told_block_at : List UserSection → Cell → Option Block
told_block_at [] cell = None
told_block_at (d ∷ earlier) cell = or_else (told_block_at earlier cell) (told_block_in d cell)

-- all PRBs of a section have their blocks
abbrev pub IsTold : UserSection → Type 0
IsTold d = data_prb_count d ≤ length d.blocks
