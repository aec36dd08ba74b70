use Rattle.std.proofs.Common.{◌≡◌, drop}
use Rattle.unit_model.specs.Blocks.{block_at}
use Rattle.fh_base.specs.Lists.{or_else}
use Rattle.plain_units.proofs.blocks.block_at.Given as goal

abbrev pub invariant-loop-d : goal.invariant-loop-d
invariant-loop-d l = block_at l.timely l.cell ≡ or_else (block_at (drop l.d-index l.timely) l.cell) l.found
