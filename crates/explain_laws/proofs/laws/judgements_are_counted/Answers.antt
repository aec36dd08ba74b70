use Rattle.explain_laws.proofs.CountedLemmas.{are_counted}
use Rattle.explain_laws.proofs.laws.judgements_are_counted.Goals as goal

pub returns : goal.returns
returns c = are_counted
