use Rattle.std.proofs.Common.{◌≡◌, get_or, sym, ap, subst, ◌∙◌, arith, rules}
use Rattle.std.proofs.lemmas.Int.{to_z-of_z}
use Rattle.std.specs.Int.{w16}
use mir.Val.{SFits}
use Rattle.bfp_codec.specs.Samples.{no_iq}
use Rattle.bfp_codec.specs.Magnitude.{magnitude_of, HasDigits}
use Rattle.bfp_codec.proofs.Blocks.{component_i, component_q}
use Rattle.bfp_codec.proofs.Magnitudes.{no_digits, more_digits}
use Rattle.bfp_codec.proofs.exponents.longest.Goals as goal

pub loop-k-init : goal.loop-k-init
loop-k-init c = no_digits c.args.block.now

pub loop-k-preserved : goal.loop-k-preserved
loop-k-preserved c =
    let pair = get_or c.args.block.now c.loop-k.k no_iq in
    let i : SFits w16 pair.i = search rules in
    let q : SFits w16 pair.q = search rules in
    more_digits c.args.block.now c.loop-k.k c.loop-k.all c.magnitude.result c.magnitude-in-loop-k.result c.loop-k.invariant
    (c.magnitude.ensures.value ∙ ap magnitude_of (to_z-of_z w16 pair.i i ∙ sym (component_i c.args.block.now c.loop-k.k)))
    (c.magnitude-in-loop-k.ensures.value ∙ ap magnitude_of (to_z-of_z w16 pair.q q ∙ sym (component_q c.args.block.now c.loop-k.k)))
    c.magnitude.ensures.below c.magnitude-in-loop-k.ensures.below

pub returns : goal.returns
returns c = let ends : c.loop-k.k ≡ 12 = omega arith in subst (λ n. HasDigits c.args.block.now n c.loop-k.all) ends c.loop-k.invariant
