use Rattle.std.proofs.Common.{◌≡◌, ℕ, ◌+◌, ◌-◌, length, inl, inr, subst, ◌∙◌, arith, rules}
use Rattle.std.proofs.lemmas.Bool.{cases_lt}
use Rattle.bfp_codec.proofs.Field.{field_kept}
use Rattle.bfp_codec.specs.Samples.{component}
use Rattle.bfp_codec.specs.Exponent.{Within}
use Rattle.bfp_codec.proofs.Whole.{plain_whole}
use Rattle.bfp_codec.proofs.packing.pack_plain.Goals as goal

pub returns-clause-bytes : goal.returns-clause-bytes
returns-clause-bytes c =
    let one = c.put_number.new.into in
    let two = c.put_number-2.new.into in
    let all = c.put_number-3.new.into in
    let len : length all ≡ 48 = omega (arith, c.requires) in
    let a = field_kept all two 32 16 0 128 c.put_number-3.ensures.others (omega arith) ∙ field_kept two one 16 16 0 128 c.put_number-2.ensures.others (omega arith) ∙ c.put_number.ensures.number ∙ c.four_plain.ensures.value in
    let b = field_kept all two 32 16 128 128 c.put_number-3.ensures.others (omega arith) ∙ c.put_number-2.ensures.number ∙ c.four_plain-2.ensures.value in
    let d = c.put_number-3.ensures.number ∙ c.four_plain-3.ensures.value in
    plain_whole c.args.block.now all len (λ i. search rules) a b d

pub returns-clause-can : goal.returns-clause-can
returns-clause-can c = λ k h.
    let P : ℕ → Type 0 = λ j. Within 16 (component c.args.block.now j) in
    elim (cases_lt k 8) [
      | inl lt ↦ let is : 0 + k ≡ k = omega arith in subst P is (c.four_plain.ensures.within k lt)
      | inr ge ↦ elim (cases_lt k 16) [
        | inl lt ↦ let is : 8 + (k - 8) ≡ k = omega arith in subst P is (c.four_plain-2.ensures.within (k - 8) (omega arith))
        | inr more ↦ let is : 16 + (k - 16) ≡ k = omega arith in subst P is (c.four_plain-3.ensures.within (k - 16) (omega arith))
      ]
    ]
