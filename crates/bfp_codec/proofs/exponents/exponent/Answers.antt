use Rattle.bfp_codec.specs.Exponent.{IsExponent}
use Rattle.bfp_codec.proofs.Fitting.{exponent_is}
use Rattle.bfp_codec.proofs.Magnitudes.{least_exponent, exponent_found}
use Rattle.bfp_codec.proofs.exponents.exponent.Goals as goal
use Rattle.bfp_codec.proofs.exponents.exponent.Goals.{After-saturating_sub}

is_exponent : (c : After-saturating_sub) → IsExponent c.args.width c.args.block.now c.saturating_sub.result
is_exponent c =
    exponent_found c.args.width c.saturating_sub.result c.longest.result c.args.block.now c.longest.ensures
    (least_exponent c.args.width c.longest.result c.saturating_sub.result c.requires.low c.longest.ensures.small c.saturating_sub.ensures)

pub returns-clause-small : goal.returns-clause-small
returns-clause-small c = (is_exponent c).small

pub returns-clause-fits : goal.returns-clause-fits
returns-clause-fits c = (is_exponent c).fits

pub returns-clause-least : goal.returns-clause-least
returns-clause-least c = (is_exponent c).least

pub returns-clause-value : goal.returns-clause-value
returns-clause-value c = exponent_is c.args.width c.saturating_sub.result c.args.block.now (is_exponent c)
