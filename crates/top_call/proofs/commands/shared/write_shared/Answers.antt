use Rattle.top_call.specs.Answers.{shared}
use Rattle.top_call.proofs.Planned.{performs_planned}
use Rattle.top_call.proofs.commands.shared.write_shared.Goals as goal

pub returns-in-Ok : goal.returns-in-Ok
returns-in-Ok g c = performs_planned (shared c.args.count c.args.step) c.args.bytes.now c.in-Ok.document _ c.in-Ok.plan _ _ _ _ c.put_shared.result c.in-Ok.ensures.ok.1.0 c.in-Ok.ensures.ok.1.1 c.put_shared.ensures

pub returns-in-Err : goal.returns-in-Err
returns-in-Err g c = c.in-Err.ensures.err (shared c.args.count c.args.step) _ _
