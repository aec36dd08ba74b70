use Rattle.std.proofs.Common.{refl, sym, ◌∙◌}
use Rattle.top_call.specs.Answers.{explained}
use Rattle.top_call.proofs.Few.{few_texted}
use Rattle.top_call.proofs.Texts.{texted_as}
use Rattle.top_call.proofs.commands.explain.put_explanation.Goals as goal

pub returns-clause-does : goal.returns-clause-does
returns-clause-does g c =
    texted_as (explained c.args.faults c.args.document.now) _ _ _ _ c.explain.result c.text_status.result c.text_status.ensures refl c.explain.ensures.done c.explain.ensures.front c.explain.ensures.part c.explain.ensures.cause

pub returns-clause-few : goal.returns-clause-few
returns-clause-few g c done = few_texted c.explain.result _ c.explain.ensures.few (sym c.text_status.ensures ∙ done)
