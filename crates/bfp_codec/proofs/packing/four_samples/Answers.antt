use Rattle.std.proofs.Common.{◌≡◌, ◌+◌, ◌*◌, ◌%◌, ◌^◌, ◌<◌, bit_or, subst, arith}
use Rattle.bfp_codec.proofs.Groups.{two_fours, wide_fits}
use Rattle.bfp_codec.proofs.packing.four_samples.Goals as goal

pub returns-clause-value : goal.returns-clause-value
returns-clause-value c = λ f each.
    two_fours c.args.width (8 * c.args.part) c.two_samples-first.result c.two_samples-second.result f c.requires.high
    c.two_samples-first.ensures.below c.two_samples-second.ensures.below (4 * (2 * c.args.part)) (4 * (2 * c.args.part + 1)) (omega arith) (omega arith)
    (c.two_samples-first.ensures.value f each) (c.two_samples-second.ensures.value f each)

pub returns-clause-below : goal.returns-clause-below
returns-clause-below c =
    let w = c.args.width in
    let n = c.two_samples-first.result in
    let m = c.two_samples-second.result in
    let sum : 4 * w + 4 * w ≡ 8 * w = omega arith in
    subst (λ k. bit_or (n * 2 ^ (4 * w) % 2 ^ 128) m < 2 ^ k) sum
    (wide_fits (4 * w) n m (omega arith) c.two_samples-first.ensures.below c.two_samples-second.ensures.below)
