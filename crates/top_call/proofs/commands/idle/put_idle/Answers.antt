use Rattle.std.proofs.Common.{refl}
use Rattle.top_call.specs.Answers.{idled}
use Rattle.top_call.proofs.Texts.{texted_as}
use Rattle.top_call.proofs.commands.idle.put_idle.Goals as goal

pub returns : goal.returns
returns g c =
    texted_as (idled c.args.first c.args.last c.args.min c.args.document.now) _ _ _ _ c.write_idle.result c.text_status.result c.text_status.ensures refl c.write_idle.ensures.done c.write_idle.ensures.front c.write_idle.ensures.part c.write_idle.ensures.cause
