use Rattle.std.proofs.Common.{rules}
use Rattle.std.proofs.lemmas.Result.{IfErr-weaker}
use Rattle.explain_air.proofs.NotingLemmas.{noting_stops}
use Rattle.explain_air.proofs.closing.note_unused.Goals as goal

pub returns-clause-stop : goal.returns-clause-stop
returns-clause-stop g c =
    let told = IfErr-weaker c.tell_unused.result _ _ (λ f stop. noting_stops g.W.LineSink.grew (g.W.LineSink.stopped f) g.met.W.LineSink.grew_more _ _ _ stop) c.tell_unused.ensures.stop in
    search (rules, told)
