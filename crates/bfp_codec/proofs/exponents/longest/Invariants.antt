use Rattle.bfp_codec.specs.Magnitude.{HasDigits}
use Rattle.bfp_codec.proofs.exponents.longest.Given as goal

abbrev pub invariant-loop-k : goal.invariant-loop-k
invariant-loop-k l = HasDigits l.block l.k l.all
