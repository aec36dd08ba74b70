use Rattle.top_call.specs.Answers.{captured}
use Rattle.top_call.proofs.Planned.{performs_planned}
use Rattle.top_call.proofs.commands.capture.write_capture.Goals as goal

pub returns-in-Ok : goal.returns-in-Ok
returns-in-Ok g c = performs_planned captured c.args.bytes.now c.in-Ok.document _ c.in-Ok.plan _ _ _ _ c.put_capture.result c.in-Ok.ensures.ok.1.0 c.in-Ok.ensures.ok.1.1 c.put_capture.ensures

pub returns-in-Err : goal.returns-in-Err
returns-in-Err g c = c.in-Err.ensures.err captured _ _
