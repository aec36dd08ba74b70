use Rattle.std.proofs.Common.{sym, ◌∙◌}
use Rattle.plain_units.proofs.BlockLemmas.{block_there}
use Rattle.plain_units.proofs.blocks.block_in.Goals as goal

pub returns-in-None : goal.returns-in-None
returns-in-None c =
    absurd (block_there c.args.d.now c.args.cell.now c.first_data_prb.result c.from-k.result c.requires (sym c.data_covers.ensures ∙ c.if-not-data_covers.false)
    c.first_data_prb.ensures c.from-k.ensures c.in-None.ensures)
