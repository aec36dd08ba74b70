use Rattle.std.proofs.Common.{◌≡◌, ℕ, List, ◌++◌, rules, append_assoc}
use Rattle.std.specs.Prelude.{codes}
use Rattle.std.proofs.lemmas.Int.{to_z-of_z}
use mir.Syntax.{w64}
use mir.Val.{SFits}
use Rattle.fh_base.specs.Words.{spaced_signed_text}
use Rattle.explain_model.specs.Lines.{line_text, window_text}
use Rattle.explain_model.proofs.lines.window.Goals as goal

joined : (a b c d e : List ℕ) → (((a ++ b) ++ c) ++ d) ++ e ≡ a ++ b ++ c ++ d ++ e
joined a b c d e = simp append_assoc

pub returns : goal.returns
unfolding line_text
returns c =
    let range = c.args.range in
    let low : SFits w64 range.min = search rules in
    let high : SFits w64 range.max = search rules in
    rw (c.text-3.ensures, c.spaced_signed-2.ensures.text, c.spaced_signed.ensures.text, c.text-2.ensures, c.text.ensures, c.requires, c.window_name.ensures.text, to_z-of_z w64 range.min low, to_z-of_z w64 range.max high)
    (joined (codes "window ") (window_text c.args.name) (spaced_signed_text range.min) (spaced_signed_text range.max) (codes "\n"))
