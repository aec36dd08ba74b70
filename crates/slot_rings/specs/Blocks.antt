-- The blocks of a slot's cells. They are in the order in which they were received; each cell has the number of its block, 1 for the
-- first, or 0 where it has none: this project's means.
use Rattle.std.specs.Prelude.{◌≡◌, ℕ, zero, suc, ◌<◌, ◌≤◌, ◌^◌, List, [], ◌∷◌, length, map, get_or, slice_get, Option, None}
use Rattle.unit_model.specs.declared.cells.Block.{Block}
use Rattle.slot_rings.specs.declared.blocks.LentBlocks.{LentBlocks}

-- of each cell its block, and for how many cells there is room
pub record BlocksValue : Type 0 where
  pub items : List (Option Block)
  pub cells : ℕ

abbrev pub no_blocks : ℕ → BlocksValue
no_blocks cells = record { items = []; cells = cells }

-- the block with a number
abbrev pub block_named : List Block → ℕ → Option Block
block_named list zero = None
block_named list (suc k) = slice_get list k

-- the blocks with these numbers
abbrev pub blocks_named : List Block → List ℕ → List (Option Block)
blocks_named list numbers = map (block_named list) numbers

-- what such numbers and blocks are as a value
abbrev pub value_of : ℕ → List ℕ → List Block → BlocksValue
value_of cells numbers list = record { items = blocks_named list numbers; cells = cells }

-- the block of a cell, of lent ones
abbrev pub block_lent : LentBlocks → ℕ → Option Block
block_lent blocks k = block_named blocks.list.now (get_or blocks.numbers.now k 0)

-- how many of the numbers are those of blocks
abbrev pub count_named : List ℕ → ℕ
count_named [] = 0
count_named (zero ∷ numbers) = count_named numbers
count_named (suc n ∷ numbers) = suc (count_named numbers)

-- what the numbers of cells are: so the list has room for a block of each cell that has none
pub record AreNumbers (cells : ℕ) (numbers : List ℕ) (list : List Block) : Type 0 where
  pub few : cells < 2 ^ 16
  pub most : length numbers ≤ cells
  pub count : length list ≡ count_named numbers
  pub within : (k : ℕ) → get_or numbers k 0 ≤ length list
