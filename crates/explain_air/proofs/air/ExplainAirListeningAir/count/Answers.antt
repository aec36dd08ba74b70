-- The lines of the last frame, and then the counter.
use Rattle.std.proofs.lemmas.Result.{on_err_weaker, on_ok_weaker}
use Rattle.air_source.specs.declared.events.Event.TheVariants as event
use Rattle.explain_air.proofs.FlushLemmas.{event_grows, event_stops, flush_stops}
use Rattle.explain_air.proofs.air.ExplainAirListeningAir.count.Goals as goal
use Rattle.fh_base.proofs.CommonLemmas.{on_err as on_any}

pub returns-in_err-flush-clause-stop : goal.returns-in_err-flush-clause-stop
returns-in_err-flush-clause-stop g c =
    on_any c.from_residual.result _
    (flush_stops c.args.self.now.faults c.args.self.now.kept (g.K.Sink.written c.args.self.now.sink.now) c.args.self.now.owed (event.Count c.args.side c.args.counter c.args.value)
    (g.K.Sink.written c.flush.new.self.sink.now) c.in_err-flush.ensures.stop)

pub returns-clause-heard : goal.returns-clause-heard
returns-clause-heard g c =
    on_ok_weaker c.tell_count.result
    (λ next.
    event_grows c.args.self.now.faults c.args.self.now.kept (g.K.Sink.written c.args.self.now.sink.now) c.args.self.now.owed (event.Count c.args.side c.args.counter c.args.value)
    c.flush.new.self.faults c.flush.new.self.kept (g.K.Sink.written c.flush.new.self.sink.now) c.flush.new.self.owed c.in_ok-flush.ensures.told
    c.tell_count.new.self.faults c.tell_count.new.self.kept (g.K.Sink.written c.tell_count.new.self.sink.now) c.tell_count.new.self.owed next)
    c.tell_count.ensures.told

pub returns-clause-stop : goal.returns-clause-stop
returns-clause-stop g c =
    on_err_weaker c.tell_count.result
    (event_stops c.args.self.now.faults c.args.self.now.kept (g.K.Sink.written c.args.self.now.sink.now) c.args.self.now.owed (event.Count c.args.side c.args.counter c.args.value)
    c.flush.new.self.faults c.flush.new.self.kept (g.K.Sink.written c.flush.new.self.sink.now) c.flush.new.self.owed c.in_ok-flush.ensures.told (g.K.Sink.written c.tell_count.new.self.sink.now))
    c.tell_count.ensures.stop
