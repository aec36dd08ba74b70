use Rattle.top_call.specs.Answers.{of_planned}
use Rattle.top_call.proofs.Documents.{unread_as}
use Rattle.top_call.proofs.Planned.{read_is, refuses_planned}
use Rattle.top_call.proofs.planning.read_planned.Goals as goal

pub returns-in-Err-check_plan-clause-err : goal.returns-in-Err-check_plan-clause-err
returns-in-Err-check_plan-clause-err c f w k =
    refuses_planned f c.args.bytes.now c.in-Ok.document c.check_plan.result c.in-Err-check_plan.refusal c.unplanned_status.result w k
    (read_is c.args.bytes.now c.read.result c.in-Ok.document c.in-Ok.is c.read.ensures.answers) c.in-Err-check_plan.is c.unplanned_status.ensures c.check_plan.ensures

pub returns-in-Err-clause-err : goal.returns-in-Err-clause-err
returns-in-Err-clause-err c f w k = unread_as (of_planned f) c.args.bytes.now c.read.result c.in-Err.fault c.unread_status.result w k c.in-Err.is c.unread_status.ensures c.read.ensures.answers
