use Rattle.std.proofs.Common.{rules}
use Rattle.std.proofs.lemmas.Result.{on_ok_weaker}
use Rattle.unit_moments.proofs.results.tell_result.Goals as goal

pub returns-clause-heard : goal.returns-clause-heard
returns-clause-heard g c = on_ok_weaker c.delay.result (λ heard k earlier. let now = heard k earlier in search (rules, now)) c.delay.ensures.heard
