use Rattle.std.proofs.Common.{refl}
use Rattle.top_call.specs.Answers.{listed}
use Rattle.top_call.proofs.Written.{counted_as}
use Rattle.top_call.proofs.commands.sent.put_sent.Goals as goal

pub returns : goal.returns
returns g c =
    counted_as (listed c.args.document.now) _ _ _ _ c.list_sent.result c.ending_of.result c.ending_of.ensures refl c.list_sent.ensures.done c.list_sent.ensures.front c.list_sent.ensures.part c.list_sent.ensures.cause
