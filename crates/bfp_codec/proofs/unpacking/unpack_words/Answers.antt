use Rattle.std.proofs.Common.{◌≡◌, ◌+◌, length, inl, ◌∙◌, arith}
use Rattle.bfp_codec.proofs.Whole.{unpacked_words}
use Rattle.bfp_codec.proofs.unpacking.unpack_words.Goals as goal

pub returns : goal.returns
returns c =
    let values = c.put_group-3.new.into in
    let len : length values ≡ 12 = omega arith in
    unpacked_words c.args.width c.exponent_at-e.result c.args.bytes.now values len c.exponent_at-e.ensures.value
    (λ j h. c.put_group-3.ensures.others (0 + j) (inl (omega arith)) ∙ c.put_group-2.ensures.others (0 + j) (inl (omega arith)) ∙ c.put_group.ensures.four j h)
    (λ j h. c.put_group-3.ensures.others (4 + j) (inl (omega arith)) ∙ c.put_group-2.ensures.four j h)
    c.put_group-3.ensures.four
