use Rattle.std.proofs.Common.{refl}
use Rattle.top_call.specs.Answers.{summarized}
use Rattle.top_call.proofs.Texts.{texted_as}
use Rattle.top_call.proofs.commands.summary.put_summary.Goals as goal

pub returns : goal.returns
returns g c =
    texted_as (summarized c.args.document.now) _ _ _ _ c.summarize_document.result c.text_status.result c.text_status.ensures refl c.summarize_document.ensures.done c.summarize_document.ensures.front c.summarize_document.ensures.part c.summarize_document.ensures.cause
