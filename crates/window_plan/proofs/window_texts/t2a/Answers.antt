use Rattle.std.proofs.Common.{◌≡◌, ◌++◌, ap, codes, ◌∙◌, arith, w64, to_z, of_z}
use Rattle.std.proofs.lemmas.Int.{ints}
use Rattle.window_config.specs.Windows.{cp_dl_of}
use Rattle.window_plan.specs.Windows.{window_text, t2a_text}
use Rattle.window_plan.proofs.Joined.{three}
use Rattle.window_plan.proofs.window_texts.t2a.Goals as goal

pub returns-clause-text : goal.returns-clause-text
unfolding t2a_text
returns-clause-text c =
    let same : to_z w64 (of_z w64 c.args.d.now.advance) ≡ c.args.d.now.advance = omega (arith, ints, c.requires.limits.advance.low, c.requires.limits.advance.high) in
    let middle = c.cp_dl.ensures.value ∙ ap (cp_dl_of c.args.d.now.t2a_up) same in
    three _ _ _ _ _ _ _ c.window.ensures.text
    (c.window-2.ensures.text ∙ ap (λ r. c.window.new.line ++ window_text (codes "t2a_cp_dl") r) middle) c.window-3.ensures.text
