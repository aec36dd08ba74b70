use Rattle.std.proofs.Common.{take, w32}
use Rattle.std.proofs.lemmas.Int.{to_z-of_z}
use Rattle.fh_base.proofs.Ladder.{signed_digits}
use Rattle.fh_base.proofs.places.put_small.Goals as goal

pub returns-then-size-lt1000-clause-text : goal.returns-then-size-lt1000-clause-text
returns-then-size-lt1000-clause-text c =
    rw (c.put_three.ensures.text, c.put_if-at.ensures.text, to_z-of_z w32 c.args.n c.ranges.n)
    (signed_digits (take c.args.at c.args.into.now) c.unsigned_abs-size.result c.args.n (rw (to_z-of_z w32 c.args.n c.ranges.n) at c.unsigned_abs-size.ensures.value))
