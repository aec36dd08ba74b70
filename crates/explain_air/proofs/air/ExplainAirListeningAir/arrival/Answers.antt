-- The lines of the last frame, and then this one, whose lines are left.
use Rattle.std.proofs.Common.{sym, subst}
use Rattle.std.proofs.lemmas.Result.{on_err_weaker, on_ok_weaker}
use Rattle.air_source.specs.declared.events.Event.TheVariants as event
use Rattle.explain_air.proofs.FlushLemmas.{event_stops, flush_stops, frame_grows}
use Rattle.window_config.specs.declared.config.Config.{Config}
use Rattle.explain_air.proofs.air.ExplainAirListeningAir.arrival.Goals as goal
use Rattle.fh_base.proofs.CommonLemmas.{on_err as on_any}

pub returns-in_err-flush-clause-stop : goal.returns-in_err-flush-clause-stop
returns-in_err-flush-clause-stop g c =
    on_any c.from_residual.result _
    (flush_stops c.args.self.now.faults c.args.self.now.kept (g.K.Sink.written c.args.self.now.sink.now) c.args.self.now.owed (event.Arrival c.args.side c.args.at c.args.frame.now)
    (g.K.Sink.written c.flush.new.self.sink.now) c.in_err-flush.ensures.stop)

pub returns-clause-heard : goal.returns-clause-heard
returns-clause-heard g c =
    on_ok_weaker c.hear_frame.result
    (λ next cfg planned h earlier may same.
    frame_grows c.args.self.now.faults c.args.self.now.kept (g.K.Sink.written c.args.self.now.sink.now) c.args.self.now.owed (event.Arrival c.args.side c.args.at c.args.frame.now)
    c.flush.new.self.faults c.flush.new.self.kept (g.K.Sink.written c.flush.new.self.sink.now) c.flush.new.self.owed c.in_ok-flush.ensures.told
    c.hear_frame.new.self.faults c.hear_frame.new.self.kept (g.K.Sink.written c.hear_frame.new.self.sink.now) c.hear_frame.new.self.owed cfg earlier
    (λ s f base is told. next s f base earlier planned h told (subst (λ (k : Config). g.U.TakesFrames.may_take c.args.unit.now k planned c.args.at.0 h) (sym is) may) same))
    c.hear_frame.ensures.heard

pub returns-clause-stop : goal.returns-clause-stop
returns-clause-stop g c =
    on_err_weaker c.hear_frame.result
    (event_stops c.args.self.now.faults c.args.self.now.kept (g.K.Sink.written c.args.self.now.sink.now) c.args.self.now.owed (event.Arrival c.args.side c.args.at c.args.frame.now)
    c.flush.new.self.faults c.flush.new.self.kept (g.K.Sink.written c.flush.new.self.sink.now) c.flush.new.self.owed c.in_ok-flush.ensures.told (g.K.Sink.written c.hear_frame.new.self.sink.now))
    c.hear_frame.ensures.stop
