use Rattle.std.proofs.Common.{refl}
use Rattle.top_call.specs.Answers.{replayed}
use Rattle.top_call.proofs.Texts.{texted_as}
use Rattle.top_call.proofs.commands.replay.put_report.Goals as goal

pub returns : goal.returns
returns g c =
    texted_as (replayed c.args.document.now) _ _ _ _ c.report_document.result c.text_status.result c.text_status.ensures refl c.report_document.ensures.done c.report_document.ensures.front c.report_document.ensures.part c.report_document.ensures.cause
