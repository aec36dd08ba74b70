use Rattle.std.proofs.Common.{◌≡◌, ℕ, ◌+◌, ◌*◌, get_or, length, ◌∙◌, arith, rules, length-set, get_or-set_same}
use Rattle.bfp_codec.proofs.Field.{field_same}
use Rattle.bfp_codec.specs.Exponent.{floor_of}
use Rattle.bfp_codec.specs.Layout.{twos}
use Rattle.bfp_codec.specs.Samples.{component}
use Rattle.bfp_codec.proofs.Whole.{packed_whole}
use Rattle.bfp_codec.proofs.packing.pack_at.Goals as goal

pub returns-clause-bytes : goal.returns-clause-bytes
returns-clause-bytes c =
    let w = c.args.width in
    let e = c.exponent-e.result in
    let f : ℕ → ℕ = λ j. twos w (floor_of (component c.args.block.now j) e) in
    let one = c.put_samples.new.into in
    let two = c.put_samples-2.new.into in
    let all = c.put_samples-3.new.into in
    let len : length all ≡ 1 + 3 * w = omega (arith, c.requires.len, length-set c.args.into.now 0 e) in
    let first : get_or all 0 0 ≡ e = c.put_samples-3.ensures.before 0 (omega arith) ∙ c.put_samples-2.ensures.before 0 (omega arith) ∙ c.put_samples.ensures.before 0 (omega arith) ∙ get_or-set_same c.args.into.now 0 e 0 (omega arith) in
    let a = field_same all two (8 * 1) (8 * w) (λ k low high. c.put_samples-3.ensures.before k (omega arith)) ∙ field_same two one (8 * 1) (8 * w) (λ k low high. c.put_samples-2.ensures.before k (omega arith)) ∙ c.put_samples.ensures.number ∙ c.four_samples.ensures.value f c.pairs-pairs.ensures.value in
    let b = field_same all two (8 * (1 + w)) (8 * w) (λ k low high. c.put_samples-3.ensures.before k (omega arith)) ∙ c.put_samples-2.ensures.number ∙ c.four_samples-2.ensures.value f c.pairs-pairs.ensures.value in
    let d = c.put_samples-3.ensures.number ∙ c.four_samples-3.ensures.value f c.pairs-pairs.ensures.value in
    packed_whole w e c.args.block.now all len (λ i. search rules) c.exponent-e.ensures.small first a b d c.exponent-e.ensures.value
