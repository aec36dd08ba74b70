-- Line by line.
use Rattle.std.proofs.Common.{[], ◌∷◌, ap, ◌∙◌}
use Rattle.explain_model.specs.declared.values.ExplainLine.TheVariants as line
use Rattle.explain_model.specs.declared.values.WindowName.TheVariants.{T1aCpDl, T2aCpDl}
use Rattle.window_config.specs.declared.delays.Range.{Range}
use Rattle.explain_air.proofs.first.window_lines.Goals as goal

pub returns : goal.returns
returns c =
    let second = c.window-2.ensures ∙ ap (λ (r : Range). line.Window T1aCpDl r) c.commands_leave.ensures in
    let fifth = c.window-5.ensures ∙ ap (λ (r : Range). line.Window T2aCpDl r) c.command_window.ensures.value in
    λ i. c.window.ensures i ∷ second i ∷ c.window-3.ensures i ∷ c.window-4.ensures i ∷ fifth i ∷ c.window-6.ensures i ∷ c.window-7.ensures i ∷ c.window-8.ensures i ∷ []
