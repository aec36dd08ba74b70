use Rattle.std.proofs.Common.{◌-◌, ◌%◌, ◌^◌, ap, subst, sym, ◌∙◌, rules}
use Rattle.std.proofs.lemmas.Int.{to_z-of_z}
use Rattle.std.proofs.lemmas.Nat.{mod_below, pow_pos}
use Rattle.std.specs.Int.{w32}
use mir.Val.{SFits, to_z}
use Rattle.bfp_codec.specs.Field.{signed}
use Rattle.bfp_codec.specs.Exponent.{floor_of, Within}
use Rattle.bfp_codec.proofs.Twos.{sign_extended, signed_within, top_bits, within_16}
use Rattle.bfp_codec.proofs.unpacking.signed_bits.Goals as goal

pub returns-clause-value : goal.returns-clause-value
returns-clause-value c =
    let w = c.args.width in
    let top : SFits w32 c.cast_signed.result = search rules in
    let out : SFits w32 c.floor_at.result = search rules in
    to_z-of_z w32 c.floor_at.result out ∙ c.floor_at.ensures
    ∙ ap (λ z. floor_of z (32 - w)) (to_z-of_z w32 c.cast_signed.result top ∙ c.cast_signed.ensures ∙ ap (to_z w32) (top_bits w c.args.number c.requires.high))
    ∙ sign_extended w (c.args.number % 2 ^ w) c.requires.low c.requires.high (mod_below c.args.number (2 ^ w) (pow_pos w))

pub returns-clause-within : goal.returns-clause-within
returns-clause-within c =
    let w = c.args.width in
    let within = signed_within w (c.args.number % 2 ^ w) c.requires.low (mod_below c.args.number (2 ^ w) (pow_pos w)) in
    subst (Within 16) (sym (returns-clause-value c)) (within_16 w (signed w (c.args.number % 2 ^ w)) c.requires.high within)
