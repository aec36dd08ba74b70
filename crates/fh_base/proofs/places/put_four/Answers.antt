use Rattle.std.proofs.Common.{◌++◌, take, ap}
use Rattle.fh_base.proofs.Ladder.{four_digits}
use Rattle.fh_base.proofs.places.put_four.Goals as goal

pub returns-clause-text : goal.returns-clause-text
returns-clause-text c =
    rw (c.put_text.ensures.text, c.pair-thousands.ensures.tens, c.pair-thousands.ensures.ones, c.pair-tens.ensures.tens, c.pair-tens.ensures.ones)
    (ap (λ t. take c.args.at c.args.into.now ++ t) (four_digits c.args.n c.requires.four.0 c.requires.four.1))
