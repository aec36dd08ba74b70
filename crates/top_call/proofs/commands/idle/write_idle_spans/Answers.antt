use Rattle.top_call.specs.Answers.{idled}
use Rattle.top_call.proofs.Planned.{performs_planned}
use Rattle.top_call.proofs.commands.idle.write_idle_spans.Goals as goal

pub returns-in-Ok : goal.returns-in-Ok
returns-in-Ok g c = performs_planned (idled c.args.first c.args.last c.args.min) c.args.bytes.now c.in-Ok.document _ c.in-Ok.plan _ _ _ _ c.put_idle.result c.in-Ok.ensures.ok.1.0 c.in-Ok.ensures.ok.1.1 c.put_idle.ensures

pub returns-in-Err : goal.returns-in-Err
returns-in-Err g c = c.in-Err.ensures.err (idled c.args.first c.args.last c.args.min) _ _
