use Rattle.std.proofs.Common.{◌≡◌, ◌+◌, length, inl, ◌∙◌, arith}
use Rattle.bfp_codec.proofs.Whole.{unpacked_whole}
use Rattle.bfp_codec.proofs.unpacking.unpack_at.Goals as goal

pub returns : goal.returns
returns c =
    let values = c.put_four-3.new.into in
    let len : length values ≡ 12 = omega arith in
    unpacked_whole c.args.width c.exponent_at-e.result c.number_at.result c.number_at-2.result c.number_at-3.result c.args.bytes.now values len
    c.exponent_at-e.ensures.value c.number_at.ensures c.number_at-2.ensures c.number_at-3.ensures
    (λ j h. c.put_four-3.ensures.others (0 + j) (inl (omega arith)) ∙ c.put_four-2.ensures.others (0 + j) (inl (omega arith)) ∙ c.put_four.ensures.four j h)
    (λ j h. c.put_four-3.ensures.others (4 + j) (inl (omega arith)) ∙ c.put_four-2.ensures.four j h)
    c.put_four-3.ensures.four
