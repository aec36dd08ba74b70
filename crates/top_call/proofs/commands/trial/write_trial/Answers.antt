use Rattle.top_call.proofs.Trials.{counted_as, uncounted_as}
use Rattle.top_call.proofs.commands.trial.write_trial.Goals as goal

pub returns-in-Ok : goal.returns-in-Ok
returns-in-Ok g c =
    counted_as c.args.seed c.args.slots c.generated.result c.in-Ok.document _ _ _ _ c.count_planned.result c.in-Ok.is c.generated.ensures.answers c.count_planned.ensures

pub returns-in-Err : goal.returns-in-Err
returns-in-Err g c =
    uncounted_as c.args.seed c.args.slots c.generated.result c.in-Err.fault c.unread_status.result _ _ c.in-Err.is c.unread_status.ensures c.generated.ensures.answers
