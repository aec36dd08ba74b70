use Rattle.std.proofs.Common.{◌≡◌, ℤ, pos, ◌+ℤ◌, ◌-ℤ◌, refl, sym, ap, subst, ◌∙◌, arith}
use Rattle.std.specs.Int.{int_div_euclid, int_rem_euclid}
use Rattle.std.proofs.lemmas.Int.{ints}
use Rattle.fh_base.specs.Frame.{IsFrame, first_frame, absolute_frame}
use Rattle.fh_base.proofs.Euclid.{resolved, one_frame, frame_small, rest_small, unwrapped}
use Rattle.fh_base.proofs.frames.resolve.Goals as goal
use Rattle.fh_base.specs.declared.frames.TheConstants.{FRAME}

pub returns-clause-is_frame : goal.returns-clause-is_frame
returns-clause-is_frame c =
    let q = c.div_euclid-first.result in
    let r = c.rem_euclid.result in
    let q_is : q ≡ int_div_euclid (c.args.at.0 +ℤ (FRAME -ℤ pos 1)) FRAME = c.div_euclid-first.ensures ∙ ap (λ z. int_div_euclid z FRAME) (omega (arith, ints)) in
    let small = frame_small c.args.at.0 q c.requires.low c.requires.high q_is in
    let r_is : r ≡ int_rem_euclid (pos c.args.frame_id -ℤ (q -ℤ pos 128)) (pos 256) = c.rem_euclid.ensures.value ∙ ap (λ z. int_rem_euclid z (pos 256)) (omega (arith, ints)) in
    let rest = rest_small (pos c.args.frame_id -ℤ (q -ℤ pos 128)) r r_is in
    let here : IsFrame c.args.frame_id c.args.at.0 (q -ℤ pos 128 +ℤ r) = resolved c.args.frame_id c.args.at.0 q r (omega arith) q_is r_is in
    subst (IsFrame c.args.frame_id c.args.at.0) (unwrapped q r small.0 small.1 rest.0 rest.1) here

pub returns-clause-only : goal.returns-clause-only
returns-clause-only c = λ other is. one_frame c.args.frame_id c.args.at.0 other _ is (returns-clause-is_frame c)

absolute_is : (id at q r : ℤ) → q ≡ int_div_euclid (at +ℤ (FRAME -ℤ pos 1)) FRAME → r ≡ int_rem_euclid (id -ℤ (q -ℤ pos 128)) (pos 256)
    → q -ℤ pos 128 +ℤ r ≡ first_frame at +ℤ int_rem_euclid (id -ℤ first_frame at) (pos 256)
absolute_is id at q r q_is r_is = rw (r_is, q_is) refl

pub returns-clause-value : goal.returns-clause-value
unfolding absolute_frame
returns-clause-value c =
    let q = c.div_euclid-first.result in
    let r = c.rem_euclid.result in
    let q_is : q ≡ int_div_euclid (c.args.at.0 +ℤ (FRAME -ℤ pos 1)) FRAME = c.div_euclid-first.ensures ∙ ap (λ z. int_div_euclid z FRAME) (omega (arith, ints)) in
    let small = frame_small c.args.at.0 q c.requires.low c.requires.high q_is in
    let r_is : r ≡ int_rem_euclid (pos c.args.frame_id -ℤ (q -ℤ pos 128)) (pos 256) = c.rem_euclid.ensures.value ∙ ap (λ z. int_rem_euclid z (pos 256)) (omega (arith, ints)) in
    let rest = rest_small (pos c.args.frame_id -ℤ (q -ℤ pos 128)) r r_is in
    sym (unwrapped q r small.0 small.1 rest.0 rest.1) ∙ absolute_is (pos c.args.frame_id) c.args.at.0 q r q_is r_is
