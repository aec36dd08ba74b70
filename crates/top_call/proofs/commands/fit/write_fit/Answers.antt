use Rattle.top_call.specs.Answers.{fit_shown}
use Rattle.top_call.proofs.Documents.{unread_as}
use Rattle.top_call.proofs.commands.fit.write_fit.Goals as goal

pub returns-in-Err : goal.returns-in-Err
returns-in-Err g c = unread_as (λ d. fit_shown d.config.delays) c.args.bytes.now c.read.result c.in-Err.fault _ _ _ c.in-Err.is c.unread_status.ensures c.read.ensures.answers
