use Rattle.std.proofs.Common.{◌*◌, ◌-◌, ◌/◌, ◌^◌, inl, refl}
use Rattle.bfp_codec.specs.Eight.{number_in}
use Rattle.bfp_codec.proofs.Groups.{first_read, last_read, two_twos}
use Rattle.bfp_codec.proofs.unpacking.put_group.Goals as goal

pub returns-clause-four : goal.returns-clause-four
returns-clause-four c j lt =
    let bytes = c.args.bytes.now in
    let at = c.args.at in
    let w = c.args.width in
    let e = c.args.e in
    let low = c.requires.low in
    let high = c.requires.high in
    two_twos c.put_two-2.new.into c.put_two.new.into (4 * c.args.part) (number_in bytes at w e) _ _ c.put_two.ensures.two (λ i below. c.put_two-2.ensures.others i (inl below)) c.put_two-2.ensures.two
    (λ k h. first_read bytes at w c.word_at.result (c.word_at.result / 2 ^ (64 - 4 * w)) e k high h c.word_at.ensures refl)
    (λ k h. last_read bytes at w c.word_at-last.result e k low high h c.word_at-last.ensures) j lt
