use Rattle.std.proofs.Common.{rules}
use Rattle.std.proofs.lemmas.Result.{IfErr-weaker}
use Rattle.explain_air.proofs.NotingLemmas.{noting_line_stops}
use Rattle.explain_air.proofs.closing.note_missing.Goals as goal

pub returns-clause-stop : goal.returns-clause-stop
returns-clause-stop g c =
    let told = IfErr-weaker c.tell_missing.result _ _ (λ f stop. noting_line_stops g.W.LineSink.grew (g.W.LineSink.stopped f) g.met.W.LineSink.grew_more _ _ _ stop) c.tell_missing.ensures.stop in
    search (rules, told)
