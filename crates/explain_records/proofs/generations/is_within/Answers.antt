use Rattle.std.proofs.Common.{◌≡◌, ℤ, ◌+ℤ◌, ap, ap₂, ◌∙◌, rules}
use mir.Val.{SFits, to_z, of_z}
use Rattle.std.specs.Int.{w64, w128}
use Rattle.std.specs.Prelude.{int_le}
use Rattle.std.proofs.Math.Facts.{sfits_widen}
use Rattle.std.proofs.lemmas.Int.{to_z-of_z}
use Rattle.ecpri_fragments.specs.Generations.{is_within}
use Rattle.explain_records.proofs.generations.is_within.Goals as goal

-- a number of 64 bits, read as one of 128
abbrev wide : ℤ → ℤ
wide v = to_z w128 (of_z w128 v)

wide_is : (a x : ℤ) → x ≡ to_z w64 (of_z w64 a) → SFits w64 a → wide x ≡ a
wide_is a x is fits =
    ap wide (is ∙ to_z-of_z w64 a fits) ∙ to_z-of_z w128 a (sfits_widen {w = w64} {w' = w128} tt fits)

within_is : (a s h x y z : ℤ) → wide x ≡ a → wide y ≡ s → wide z ≡ h → SFits w128 (wide y +ℤ wide z) → int_le (wide x) (wide (wide y +ℤ wide z)) ≡ is_within h s a
within_is a s h x y z is js ks fits = ap₂ (λ (u v : ℤ). int_le u v) is (to_z-of_z w128 (wide y +ℤ wide z) fits ∙ ap₂ ◌+ℤ◌ js ks)

pub returns : goal.returns
returns c =
    let a : SFits w64 c.args.at.0 = search rules in
    let s : SFits w64 c.args.start.0 = search rules in
    let h : SFits w64 c.args.hold.0 = search rules in
    let sum : SFits w128 (wide c.from-2.result +ℤ wide c.from-3.result) = search rules in
    within_is c.args.at.0 c.args.start.0 c.args.hold.0 c.from.result c.from-2.result c.from-3.result
    (wide_is c.args.at.0 c.from.result c.from.ensures a) (wide_is c.args.start.0 c.from-2.result c.from-2.ensures s) (wide_is c.args.hold.0 c.from-3.result c.from-3.ensures h) sum
