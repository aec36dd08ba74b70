use Rattle.std.proofs.Common.{◌≡◌, ◌+◌, ℤ, ◌+ℤ◌, ap, ◌∙◌, rules}
use mir.Val.{SFits, to_z, of_z}
use Rattle.std.specs.Int.{w64}
use Rattle.std.proofs.lemmas.Int.{to_z-of_z}
use Rattle.report_airs.proofs.totals.plus.Goals as goal

-- a sum of numbers that fit, where it fits
sum_is : (a b : ℤ) → SFits w64 a → SFits w64 b → SFits w64 (a +ℤ b) → to_z w64 (of_z w64 (to_z w64 (of_z w64 a) +ℤ to_z w64 (of_z w64 b))) ≡ a +ℤ b
sum_is a b f g h =
    ap (λ x. to_z w64 (of_z w64 (x +ℤ to_z w64 (of_z w64 b)))) (to_z-of_z w64 a f)
    ∙ ap (λ y. to_z w64 (of_z w64 (a +ℤ y))) (to_z-of_z w64 b g)
    ∙ to_z-of_z w64 (a +ℤ b) h

pub returns-clause-value : goal.returns-clause-value
returns-clause-value c =
    let a : SFits w64 c.args.before.i = search rules in
    let b : SFits w64 c.args.cell.i = search rules in
    let ab : SFits w64 (c.args.before.i +ℤ c.args.cell.i) = search rules in
    let d : SFits w64 c.args.before.q = search rules in
    let e : SFits w64 c.args.cell.q = search rules in
    let de : SFits w64 (c.args.before.q +ℤ c.args.cell.q) = search rules in
    let i-is = sum_is c.args.before.i c.args.cell.i a b ab in
    let q-is = sum_is c.args.before.q c.args.cell.q d e de in
    λ k. record { elements = c.args.before.elements + c.args.cell.elements; i = i-is k; q = q-is k; missing = c.args.before.missing + c.args.cell.missing }
