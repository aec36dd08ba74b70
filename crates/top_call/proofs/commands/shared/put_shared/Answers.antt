use Rattle.std.proofs.Common.{refl}
use Rattle.top_call.specs.Answers.{shared}
use Rattle.top_call.proofs.Sharing.{shared_as}
use Rattle.top_call.proofs.commands.shared.put_shared.Goals as goal

pub returns : goal.returns
returns g c =
    shared_as (shared c.args.count c.args.step c.args.document.now) _ _ _ _ c.share.result c.share_status.result c.share_status.ensures refl c.share.ensures.done c.share.ensures.front c.share.ensures.part c.share.ensures.cause
