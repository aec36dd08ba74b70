-- What was kept is told in part.
use Rattle.std.proofs.Common.{sym, ◌∙◌}
use Rattle.std.proofs.lemmas.Result.{IfErr-weaker}
use Rattle.explain_air.proofs.AirSteps.{closes_part}
use Rattle.explain_air.proofs.Fronts.{out_front}
use Rattle.explain_air.proofs.air.ExplainAir.close.Goals as goal

pub returns-in-Some-clause-stop : goal.returns-in-Some-clause-stop
returns-in-Some-clause-stop g c =
    IfErr-weaker c.close.result _ _
    (λ f h.
    closes_part c.args.self.now.faults c.args.self.now.kept c.in-Some.kept (sym c.take.ensures.value ∙ c.in-Some.is) (g.K.Sink.written c.args.self.now.sink.now) c.args.self.now.owed
    (g.K.Sink.written c.close.new.out.sink.now) (λ s events k. out_front g.K.Sink.written _ _ _ (h s events k)))
    c.close.ensures.stop
