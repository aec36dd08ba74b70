use Rattle.top_call.specs.Answers.{windows_shown}
use Rattle.top_call.proofs.Documents.{unread_as}
use Rattle.top_call.proofs.commands.windows.write_windows.Goals as goal

pub returns-in-Err : goal.returns-in-Err
returns-in-Err g c = unread_as (λ d. windows_shown d.config) c.args.bytes.now c.read.result c.in-Err.fault _ _ _ c.in-Err.is c.unread_status.ensures c.read.ensures.answers
