use Rattle.std.proofs.Common.{refl}
use Rattle.top_call.specs.Answers.{captured}
use Rattle.top_call.proofs.Texts.{texted_as}
use Rattle.top_call.proofs.commands.capture.put_capture.Goals as goal

pub returns : goal.returns
returns g c =
    texted_as (captured c.args.document.now) _ _ _ _ c.capture_document.result c.text_status.result c.text_status.ensures refl c.capture_document.ensures.done c.capture_document.ensures.front c.capture_document.ensures.part c.capture_document.ensures.cause
