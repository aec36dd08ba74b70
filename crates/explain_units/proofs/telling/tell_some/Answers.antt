-- The one line.
use Rattle.std.proofs.lemmas.Result.{IfErr-weaker}
use Rattle.explain_units.proofs.StopLemmas.{in_one}
use Rattle.explain_units.proofs.telling.tell_some.Goals as goal

pub returns-in-Some-clause-stop : goal.returns-in-Some-clause-stop
returns-in-Some-clause-stop g c =
    rw c.in-Some.is (IfErr-weaker c.put.result _ _ (λ f h. in_one g.W.LineSink.grew (g.W.LineSink.stopped f) g.met.W.LineSink.grew_none _ c.args.out.now c.put.new.self h) c.put.ensures.stop)
