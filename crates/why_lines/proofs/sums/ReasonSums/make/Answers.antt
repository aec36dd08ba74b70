use Rattle.std.proofs.Common.{rules}
use Rattle.why_lines.proofs.AddLemmas.{none_yet}
use Rattle.why_lines.proofs.sums.ReasonSums.make.Goals as goal

pub returns : goal.returns
returns c = none_yet c.args.endpoints.now _ (search rules)
