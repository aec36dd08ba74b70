-- A front of the lines of the configuration.
use Rattle.std.proofs.lemmas.Result.{IfErr-weaker}
use Rattle.explain_air.proofs.Fronts.{out_front}
use Rattle.explain_heard.specs.Stops.{Within}
use Rattle.explain_air.proofs.air.ExplainAir.tell_config.Goals as goal

pub returns-clause-stop : goal.returns-clause-stop
returns-clause-stop g c = IfErr-weaker c.tell_first.result _ _ (λ f h. out_front g.K.Sink.written _ _ _ (Within h)) c.tell_first.ensures.stop
