use Rattle.std.proofs.Common.{refl}
use Rattle.top_call.specs.Answers.{counted}
use Rattle.top_call.proofs.Texts.{texted_as}
use Rattle.top_call.proofs.commands.trial.put_counts.Goals as goal

pub returns : goal.returns
returns g c =
    texted_as (counted c.args.document.now) _ _ _ _ c.count_document.result c.text_status.result c.text_status.ensures refl c.count_document.ensures.done c.count_document.ensures.front c.count_document.ensures.part c.count_document.ensures.cause
