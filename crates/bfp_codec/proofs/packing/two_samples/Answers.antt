use Rattle.std.proofs.Common.{◌≡◌, ◌+◌, ◌*◌, ◌%◌, ◌^◌, ◌<◌, get_or, bit_or, subst, arith}
use Rattle.bfp_codec.proofs.Groups.{two_pairs, or_fits}
use Rattle.bfp_codec.proofs.packing.two_samples.Goals as goal

pub returns-clause-value : goal.returns-clause-value
returns-clause-value c = λ f each.
    let p = c.args.part in
    two_pairs c.args.width (4 * p) (get_or c.args.pairs.now (2 * p) 0) (get_or c.args.pairs.now (2 * p + 1) 0) f c.requires.high
    (c.requires.small (2 * p) (omega arith)) (c.requires.small (2 * p + 1) (omega arith)) (2 * (2 * p)) (2 * (2 * p + 1)) (omega arith) (omega arith)
    (each (2 * p) (omega arith)) (each (2 * p + 1) (omega arith))

pub returns-clause-below : goal.returns-clause-below
returns-clause-below c =
    let p = c.args.part in
    let w = c.args.width in
    let n = get_or c.args.pairs.now (2 * p) 0 in
    let m = get_or c.args.pairs.now (2 * p + 1) 0 in
    let sum : 2 * w + 2 * w ≡ 4 * w = omega arith in
    subst (λ k. bit_or (n * 2 ^ (2 * w) % 2 ^ 64) m < 2 ^ k) sum
    (or_fits (2 * w) n m (omega arith) (c.requires.small (2 * p) (omega arith)) (c.requires.small (2 * p + 1) (omega arith)))
