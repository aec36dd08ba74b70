use Rattle.std.proofs.Common.{◌≡◌, ℕ, ◌+◌, ◌*◌, ◌^◌, ◌<◌, get_or, set, length, sym, ap, subst, ◌∙◌, arith, rules, below_more, length-set, get_or-set_same, get_or-set_other}
use Rattle.std.proofs.lemmas.Int.{to_z-of_z}
use Rattle.std.specs.Int.{w16}
use mir.Val.{SFits}
use Rattle.bfp_codec.specs.Field.{digits}
use Rattle.bfp_codec.proofs.Digits.{digits_fit}
use Rattle.bfp_codec.proofs.Groups.{two_ones}
use Rattle.bfp_codec.specs.Samples.{no_iq, component}
use Rattle.bfp_codec.specs.Exponent.{floor_of, Within}
use Rattle.bfp_codec.specs.Layout.{twos}
use Rattle.bfp_codec.proofs.Blocks.{component_i, component_q}
use Rattle.bfp_codec.proofs.Twos.{twos_fits}
use Rattle.bfp_codec.proofs.packing.pairs.Goals as goal

pub mantissa_bits-i-requires-clause-fits : goal.mantissa_bits-i-requires-clause-fits
mantissa_bits-i-requires-clause-fits c =
    let pair = get_or c.args.block.now c.loop-k.k no_iq in
    let i : SFits w16 pair.i = search rules in
    subst (λ z. Within c.args.width (floor_of z c.args.e)) (component_i c.args.block.now c.loop-k.k ∙ sym (to_z-of_z w16 pair.i i)) (c.requires.fits (2 * c.loop-k.k) (omega arith))

pub mantissa_bits-q-requires-clause-fits : goal.mantissa_bits-q-requires-clause-fits
mantissa_bits-q-requires-clause-fits c =
    let pair = get_or c.args.block.now c.loop-k.k no_iq in
    let q : SFits w16 pair.q = search rules in
    subst (λ z. Within c.args.width (floor_of z c.args.e)) (component_q c.args.block.now c.loop-k.k ∙ sym (to_z-of_z w16 pair.q q)) (c.requires.fits (2 * c.loop-k.k + 1) (omega arith))

pub loop-k-preserved : goal.loop-k-preserved
loop-k-preserved c =
    let w = c.args.width in
    let k = c.loop-k.k in
    let xs = c.loop-k.pairs in
    let pair = get_or c.args.block.now k no_iq in
    let i : SFits w16 pair.i = search rules in
    let q : SFits w16 pair.q = search rules in
    let f : ℕ → ℕ → ℕ = λ n j. twos w (floor_of (component c.args.block.now (2 * n + j)) c.args.e) in
    let at_i : 2 * k ≡ 2 * k + 0 = omega arith in
    let i_is : c.mantissa_bits-i.result ≡ f k 0 =
    c.mantissa_bits-i.ensures.value ∙ ap (λ z. twos w (floor_of z c.args.e)) (to_z-of_z w16 pair.i i ∙ sym (component_i c.args.block.now k) ∙ ap (component c.args.block.now) at_i) in
    let q_is : c.mantissa_bits-q.result ≡ f k 1 =
    c.mantissa_bits-q.ensures.value ∙ ap (λ z. twos w (floor_of z c.args.e)) (to_z-of_z w16 pair.q q ∙ sym (component_q c.args.block.now k)) in
    let here = two_ones w (f k) c.mantissa_bits-i.result c.mantissa_bits-q.result c.requires.high i_is q_is c.mantissa_bits-i.ensures.below c.mantissa_bits-q.ensures.below in
    let room : k < length xs = omega (arith, c.loop-k.invariant.len) in
    record {
      len = length-set xs k _ ∙ c.loop-k.invariant.len;
      done = below_more (λ n. get_or (set xs k _) n 0 ≡ digits w (f n) 2) k
          (λ n h. get_or-set_other xs k n _ 0 (omega arith) ∙ c.loop-k.invariant.done n h)
          (get_or-set_same xs k _ 0 room ∙ here);
    }

pub returns-clause-below : goal.returns-clause-below
returns-clause-below c = λ k h.
    let w = c.args.width in
    let f : ℕ → ℕ = λ j. twos w (floor_of (component c.args.block.now (2 * k + j)) c.args.e) in
    let turned : w * 2 ≡ 2 * w = omega arith in
    let fit : digits w f 2 < 2 ^ (w * 2) = digits_fit w f 2 (λ j below. twos_fits w (floor_of (component c.args.block.now (2 * k + j)) c.args.e) c.requires.low (c.requires.fits (2 * k + j) (omega arith))) in
    let is = c.loop-k.invariant.done k (omega (arith, c.loop-k-test.false)) in
    omega (arith, is, fit, ap (λ n. 2 ^ n) turned)
