use Rattle.std.proofs.Common.{ap, ◌∙◌, rules}
use Rattle.std.proofs.lemmas.Int.{to_z-of_z}
use Rattle.std.specs.Int.{w16}
use mir.Val.{SFits, of_z}
use Rattle.bfp_codec.specs.Exponent.{floor_of}
use Rattle.bfp_codec.proofs.Twos.{of_bits}
use Rattle.bfp_codec.proofs.packing.mantissa_bits.Goals as goal

pub returns-clause-value : goal.returns-clause-value
returns-clause-value c =
    let x : SFits w16 c.args.x = search rules in
    let floor : SFits w16 c.floor_at.result = search rules in
    of_bits c.args.x c.args.width c.args.e c.floor_at.result c.cast_unsigned.result c.ones.result c.requires.low c.requires.high c.requires.fits
    (c.floor_at.ensures ∙ ap (λ z. floor_of z c.args.e) (to_z-of_z w16 c.args.x x)) (c.cast_unsigned.ensures ∙ ap (of_z w16) (to_z-of_z w16 c.floor_at.result floor)) c.ones.ensures
