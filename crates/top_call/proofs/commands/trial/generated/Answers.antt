use Rattle.std.proofs.Common.{◌∙◌}
use Rattle.top_call.proofs.Trials.{read_as}
use Rattle.top_call.proofs.commands.trial.generated.Goals as goal

pub returns-in-Ok-clause-answers : goal.returns-in-Ok-clause-answers
returns-in-Ok-clause-answers c =
    read_as c.args.seed c.args.slots c.as_slice.result.now c.read.result c.ranges.seed.fits c.requires.low c.requires.high (c.as_slice.ensures ∙ c.in-Ok.ensures) c.read.ensures.answers
