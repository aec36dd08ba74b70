use Rattle.std.proofs.Common.{◌≡◌, ◌++◌, ap, ap₂, append_assoc, ◌∙◌, arith, w64, to_z, of_z}
use Rattle.std.proofs.lemmas.Int.{ints}
use Rattle.window_plan.specs.Fit.{frame_text}
use Rattle.window_plan.proofs.fit_texts.frames.Goals as goal

pub returns-in-Two-clause-text : goal.returns-in-Two-clause-text
returns-in-Two-clause-text c =
    let a : to_z w64 (of_z w64 c.in-Two.sent) ≡ c.in-Two.sent = omega (arith, ints) in
    let b : to_z w64 (of_z w64 c.in-Two.delay) ≡ c.in-Two.delay = omega (arith, ints) in
    let d : to_z w64 (of_z w64 c.in-Two.later) ≡ c.in-Two.later = omega (arith, ints) in
    let e : to_z w64 (of_z w64 c.in-Two.later_delay) ≡ c.in-Two.later_delay = omega (arith, ints) in
    let first = c.frame-in-Two.ensures.text ∙ ap₂ (λ s t. c.args.line.now ++ frame_text s t) a b in
    let second = c.frame-in-Two-2.ensures.text ∙ ap₂ (λ s t. c.frame-in-Two.new.line ++ frame_text s t) d e in
    rw c.in-Two.is (
    second
    ∙ ap (λ t. t ++ frame_text c.in-Two.later c.in-Two.later_delay) first
    ∙ append_assoc c.args.line.now (frame_text c.in-Two.sent c.in-Two.delay) (frame_text c.in-Two.later c.in-Two.later_delay)
    )
