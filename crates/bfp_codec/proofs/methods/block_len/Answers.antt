use Rattle.std.proofs.Common.{◌∙◌, ap}
use Rattle.bfp_codec.specs.Layout.{length_of}
use Rattle.bfp_codec.proofs.Laws.{length_packed}
use Rattle.bfp_codec.proofs.methods.block_len.Goals as goal

pub returns-in-Plain-clause-packed : goal.returns-in-Plain-clause-packed
returns-in-Plain-clause-packed c = λ block. length_packed c.args.method block ∙ ap length_of c.in-Plain.is

pub returns-in-Bfp-clause-packed : goal.returns-in-Bfp-clause-packed
returns-in-Bfp-clause-packed c = λ block. length_packed c.args.method block ∙ ap length_of c.in-Bfp.is
