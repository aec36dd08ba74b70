-- The frame is heard, and nothing is written.
use Rattle.std.proofs.Common.{refl}
use Rattle.air_source.specs.declared.events.Event.TheVariants as event
use Rattle.explain_air.proofs.AirSteps.{none_stops, stops}
use Rattle.explain_air.proofs.FlushLemmas.{frame_left}
use Rattle.explain_air.proofs.air.ExplainAir.hear_frame.Goals as goal
use Rattle.fh_base.proofs.CommonLemmas.{on_err as on_any}
use Rattle.fh_base.proofs.Progress.{front_none}

pub returns-in-None-clause-stop : goal.returns-in-None-clause-stop
returns-in-None-clause-stop g c =
    none_stops c.args.self.now.faults c.args.self.now.kept c.in-None.is (g.K.Sink.written c.args.self.now.sink.now) c.args.self.now.owed (event.Arrival c.args.side c.args.at c.args.frame.now) refl

pub returns-in_ok-arrive-in-Some-clause-heard : goal.returns-in_ok-arrive-in-Some-clause-heard
returns-in_ok-arrive-in-Some-clause-heard g c s faults base events planned h told may same =
    frame_left c.args.self.now.faults c.args.self.now.kept (g.K.Sink.written c.args.self.now.sink.now) c.args.self.now.owed c.in-Some.kept c.in-Some.is
    (event.Arrival c.args.side c.args.at c.args.frame.now) c.arrive.new.self s faults base events (λ heard. c.in_ok-arrive-in-Some.ensures.after s events planned h heard may same) told

pub returns-in_err-arrive-in-Some-clause-stop : goal.returns-in_err-arrive-in-Some-clause-stop
returns-in_err-arrive-in-Some-clause-stop g c =
    on_any c.from_residual.result _
    (stops c.args.self.now.faults c.args.self.now.kept c.in-Some.kept c.in-Some.is (g.K.Sink.written c.args.self.now.sink.now) c.args.self.now.owed
    (event.Arrival c.args.side c.args.at c.args.frame.now) (g.K.Sink.written c.args.self.now.sink.now) (λ s events heard. front_none (g.K.Sink.written c.args.self.now.sink.now) _))
