-- By what is kept.
use Rattle.std.proofs.Common.{ℤ, OnOk, IfErr, Some, refl, subst, to_z, of_z}
use Rattle.std.specs.Int.{w128}
use Rattle.std.proofs.lemmas.Int.{to_z-of_z}
use Rattle.std.proofs.lemmas.Result.{IfErr-weaker}
use Rattle.air_source.specs.declared.events.Event.TheVariants as event
use Rattle.explain_air.proofs.AirSteps.{grows, none_stops, stops}
use Rattle.explain_air.proofs.Fronts.{out_front}
use Rattle.explain_air.specs.Airs.{Tells, TellsPart}
use Rattle.explain_air.proofs.air.ExplainAir.tell_delay.Goals as goal

pub returns-in-None-clause-stop : goal.returns-in-None-clause-stop
returns-in-None-clause-stop g c =
    none_stops c.args.self.now.faults c.args.self.now.kept c.in-None.is (g.K.Sink.written c.args.self.now.sink.now) c.args.self.now.owed (event.Delay c.args.at c.args.side c.args.id c.args.value) refl

pub returns-in-Some-clause-told : goal.returns-in-Some-clause-told
returns-in-Some-clause-told g c =
    let passed : ℤ = to_z w128 (of_z w128 c.args.value) in
    subst
    (λ (value : ℤ).
    OnOk c.delay.result
    (Tells c.args.self.now.faults c.args.self.now.kept (g.K.Sink.written c.args.self.now.sink.now) c.args.self.now.owed (event.Delay c.args.at c.args.side c.args.id value)
    c.args.self.now.faults (Some c.delay.new.self) (g.K.Sink.written c.delay.new.out.sink.now) c.delay.new.out.owed.now))
    (to_z-of_z w128 c.args.value c.ranges.value)
    (grows c.args.self.now.faults c.args.self.now.kept c.in-Some.kept c.in-Some.is (g.K.Sink.written c.args.self.now.sink.now) c.args.self.now.owed
    (event.Delay c.args.at c.args.side c.args.id passed) c.delay.result refl
    c.delay.new.self c.delay.new.out.faults (g.K.Sink.written c.delay.new.out.sink.now) c.delay.new.out.owed.now c.delay.ensures.after c.delay.ensures.heard)

pub returns-in-Some-clause-stop : goal.returns-in-Some-clause-stop
returns-in-Some-clause-stop g c =
    let passed : ℤ = to_z w128 (of_z w128 c.args.value) in
    subst
    (λ (value : ℤ).
    IfErr c.delay.result
    (λ _.
    TellsPart c.args.self.now.faults c.args.self.now.kept (g.K.Sink.written c.args.self.now.sink.now) c.args.self.now.owed (event.Delay c.args.at c.args.side c.args.id value)
    (g.K.Sink.written c.delay.new.out.sink.now)))
    (to_z-of_z w128 c.args.value c.ranges.value)
    (IfErr-weaker c.delay.result _ _
    (λ f h.
    stops c.args.self.now.faults c.args.self.now.kept c.in-Some.kept c.in-Some.is (g.K.Sink.written c.args.self.now.sink.now) c.args.self.now.owed
    (event.Delay c.args.at c.args.side c.args.id passed)
    (g.K.Sink.written c.delay.new.out.sink.now) (λ s events k. out_front g.K.Sink.written _ _ _ (h s events k)))
    c.delay.ensures.stop)
