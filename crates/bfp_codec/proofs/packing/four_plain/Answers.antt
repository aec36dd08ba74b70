use Rattle.std.proofs.Common.{◌≡◌, ℕ, ◌+◌, ◌*◌, ◌^◌, ◌<◌, get_or, inl, inr, refl, sym, ap, subst, ◌∙◌, arith, rules}
use Rattle.std.proofs.lemmas.Bool.{cases_lt}
use Rattle.std.proofs.lemmas.Int.{to_z-of_z}
use Rattle.std.specs.Int.{w16}
use mir.Val.{SFits}
use Rattle.bfp_codec.specs.Field.{digits}
use Rattle.bfp_codec.proofs.Digits.{digits_push}
use Rattle.bfp_codec.specs.Samples.{no_iq, component}
use Rattle.bfp_codec.specs.Exponent.{Within}
use Rattle.bfp_codec.specs.Layout.{twos}
use Rattle.bfp_codec.proofs.Blocks.{component_i, component_q}
use Rattle.bfp_codec.proofs.Twos.{twos_fits}
use Rattle.bfp_codec.proofs.packing.four_plain.Goals as goal

pub loop-k-init : goal.loop-k-init
unfolding digits
loop-k-init c = record { value = refl; within = λ j h. absurd (omega arith) }

pub loop-k-preserved : goal.loop-k-preserved
loop-k-preserved c =
    let k = c.loop-k.k in
    let first = 8 * c.args.part in
    let block = c.args.block.now in
    let pair = get_or block (4 * c.args.part + k) no_iq in
    let i : SFits w16 pair.i = search rules in
    let q : SFits w16 pair.q = search rules in
    let f : ℕ → ℕ = λ j. twos 16 (component block (first + j)) in
    let at_i : 2 * (4 * c.args.part + k) ≡ first + 2 * k = omega arith in
    let at_q : 2 * (4 * c.args.part + k) + 1 ≡ first + (2 * k + 1) = omega arith in
    let same_i = to_z-of_z w16 pair.i i ∙ sym (component_i block (4 * c.args.part + k)) ∙ ap (component block) at_i in
    let same_q = to_z-of_z w16 pair.q q ∙ sym (component_q block (4 * c.args.part + k)) ∙ ap (component block) at_q in
    let i_is : c.plain_bits.result ≡ f (2 * k) = c.plain_bits.ensures.value ∙ ap (twos 16) same_i in
    let q_is : c.plain_bits-in-loop-k.result ≡ f (2 * k + 1) = c.plain_bits-in-loop-k.ensures.value ∙ ap (twos 16) same_q in
    let i_within : Within 16 (component block (first + 2 * k)) = subst (Within 16) same_i c.plain_bits.ensures.within in
    let q_within : Within 16 (component block (first + (2 * k + 1))) = subst (Within 16) same_q c.plain_bits-in-loop-k.ensures.within in
    let within_i : (j : ℕ) → j < 2 * k + 1 → Within 16 (component block (first + j)) = λ j h. elim (cases_lt j (2 * k)) [
      | inl lt ↦ c.loop-k.invariant.within j lt
      | inr ge ↦ let is : 2 * k ≡ j = omega arith in subst (λ n. Within 16 (component block (first + n))) is i_within
    ] in
    let within_q : (j : ℕ) → j < 2 * (k + 1) → Within 16 (component block (first + j)) = λ j h. elim (cases_lt j (2 * k + 1)) [
      | inl lt ↦ within_i j lt
      | inr ge ↦ let is : 2 * k + 1 ≡ j = omega arith in subst (λ n. Within 16 (component block (first + n))) is q_within
    ] in
    let fits : (j : ℕ) → j < 2 * (k + 1) → f j < 2 ^ 16 = λ j h. twos_fits 16 (component block (first + j)) (omega arith) (within_q j h) in
    let one = digits_push 16 f (2 * k) c.loop-k.number c.plain_bits.result c.loop-k.invariant.value (omega arith) (λ j h. fits j (omega arith)) i_is (omega (arith, i_is, fits (2 * k) (omega arith))) in
    let two = digits_push 16 f (2 * k + 1) _ c.plain_bits-in-loop-k.result one (omega arith) (λ j h. fits j (omega arith)) q_is (omega (arith, q_is, fits (2 * k + 1) (omega arith))) in
    let more : 2 * k + 1 + 1 ≡ 2 * (k + 1) = omega arith in
    record { value = two ∙ ap (digits 16 f) more; within = within_q }
