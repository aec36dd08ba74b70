use Rattle.std.proofs.Common.{◌*◌, ◌%◌, ◌^◌, ap, ◌∙◌, rules}
use Rattle.std.proofs.lemmas.Int.{to_z-of_z}
use Rattle.std.proofs.Math.Nat.{mod-eq_of_lt}
use Rattle.std.specs.Int.{w32}
use mir.Val.{SFits}
use Rattle.bfp_codec.specs.Field.{signed}
use Rattle.bfp_codec.proofs.Field.{field_fits}
use Rattle.bfp_codec.proofs.unpacking.plain_at.Goals as goal

pub returns : goal.returns
returns c =
    let fits : SFits w32 c.signed_bits.result = search rules in
    to_z-of_z w32 c.signed_bits.result fits ∙ c.signed_bits.ensures.value
    ∙ ap (signed 16) (ap (λ x. x % 2 ^ 16) c.pair_at.ensures ∙ mod-eq_of_lt (field_fits c.args.bytes.now (8 * c.args.at) 16))
