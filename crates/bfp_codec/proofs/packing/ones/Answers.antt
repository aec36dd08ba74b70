use Rattle.std.proofs.Common.{arith}
use Rattle.bfp_codec.proofs.Twos.{ones_is}
use Rattle.bfp_codec.proofs.packing.ones.Goals as goal

pub returns : goal.returns
returns c = omega (arith, ones_is c.args.width c.requires.high)
