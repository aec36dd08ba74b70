use Rattle.bfp_codec.proofs.Groups.{word_of_halves}
use Rattle.bfp_codec.proofs.unpacking.word_at.Goals as goal

pub returns : goal.returns
returns c = word_of_halves c.args.bytes.now c.args.at c.half_at.result c.half_at-2.result c.half_at.ensures c.half_at-2.ensures
