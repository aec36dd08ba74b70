use Rattle.std.proofs.Common.{◌+◌, [], ◌∷◌, refl, sym, ap, ◌∙◌}
use Rattle.bfp_codec.specs.Layout.{length_of}
use Rattle.uplane_sections.specs.Messages.{Block, Telling, after}
use Rattle.uplane_sections.proofs.Behind.{block_step_at}
use Rattle.uplane_sections.proofs.units.block.Goals as goal

pub returns-clause-tells : goal.returns-clause-tells
returns-clause-tells c format prbs shape rest =
    block_step_at format prbs shape c.args.method c.args.symbol c.args.at c.args.prb c.args.left c.args.bytes.now rest c.requires.left c.requires.len
    ∙ rw (sym c.unpack.ensures) refl
    ∙ ap (λ (t : Telling). after (Block c.args.prb c.unpack.result ∷ []) t) (c.inside.ensures.leads format prbs shape (c.args.at + length_of c.args.method) rest)
