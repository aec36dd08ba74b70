-- An element of both masks.
use Rattle.explain_records.proofs.NearestLemmas.{shared}
use Rattle.explain_records.proofs.commands.share.Goals as goal

pub returns : goal.returns
returns c = shared c.args.a c.args.b
