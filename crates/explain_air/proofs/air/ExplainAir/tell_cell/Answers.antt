-- By what is kept.
use Rattle.std.proofs.Common.{refl}
use Rattle.std.proofs.lemmas.Result.{IfErr-weaker}
use Rattle.air_source.specs.declared.events.Event.TheVariants as event
use Rattle.explain_air.proofs.AirSteps.{grows, none_stops, stops}
use Rattle.explain_air.proofs.Fronts.{out_front}
use Rattle.explain_air.proofs.air.ExplainAir.tell_cell.Goals as goal

pub returns-in-None-clause-stop : goal.returns-in-None-clause-stop
returns-in-None-clause-stop g c =
    none_stops c.args.self.now.faults c.args.self.now.kept c.in-None.is (g.K.Sink.written c.args.self.now.sink.now) c.args.self.now.owed (event.Cell c.args.c.now) refl

pub returns-in-Some-clause-told : goal.returns-in-Some-clause-told
returns-in-Some-clause-told g c =
    grows c.args.self.now.faults c.args.self.now.kept c.in-Some.kept c.in-Some.is (g.K.Sink.written c.args.self.now.sink.now) c.args.self.now.owed (event.Cell c.args.c.now) c.cell.result refl
    c.cell.new.self c.cell.new.out.faults (g.K.Sink.written c.cell.new.out.sink.now) c.cell.new.out.owed.now c.cell.ensures.after c.cell.ensures.heard

pub returns-in-Some-clause-stop : goal.returns-in-Some-clause-stop
returns-in-Some-clause-stop g c =
    IfErr-weaker c.cell.result _ _
    (λ f h.
    stops c.args.self.now.faults c.args.self.now.kept c.in-Some.kept c.in-Some.is (g.K.Sink.written c.args.self.now.sink.now) c.args.self.now.owed (event.Cell c.args.c.now)
    (g.K.Sink.written c.cell.new.out.sink.now) (λ s events k. out_front g.K.Sink.written _ _ _ (h s events k)))
    c.cell.ensures.stop
