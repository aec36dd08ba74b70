use Rattle.std.proofs.Common.{rules, refl, arith}
use Rattle.fh_base.proofs.Kept.{ordinary_is}
use Rattle.fh_base.proofs.numerology.Numerology.ordinary.Goals as goal

pub returns-clause-value : goal.returns-clause-value
returns-clause-value c = ordinary_is c.args.code c.in_ok-spacing.spacing _ (omega arith) (search rules) refl
