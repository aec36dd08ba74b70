use Rattle.std.proofs.Common.{rules, refl}
use Rattle.fh_base.proofs.Kept.{offset_is}
use Rattle.fh_base.proofs.numerology.Numerology.offset.Goals as goal

pub returns-clause-value : goal.returns-clause-value
returns-clause-value c =
    offset_is c.args.code c.args.time_offset c.args.cp_length c.in_ok-spacing.spacing _ c.ranges.time_offset.fits c.ranges.cp_length.fits (search rules) refl
