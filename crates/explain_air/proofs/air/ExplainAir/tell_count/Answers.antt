-- What is before the counters, and the line of this one.
use Rattle.std.proofs.Common.{◌∙◌}
use Rattle.std.proofs.lemmas.Result.{on_err_weaker, on_ok_weaker}
use Rattle.explain_air.proofs.AirSteps.{close_stops, count_grows, count_stops}
use Rattle.explain_air.proofs.air.ExplainAir.tell_count.Goals as goal
use Rattle.fh_base.proofs.CommonLemmas.{on_err as on_any}

pub returns-in_err-close-clause-stop : goal.returns-in_err-close-clause-stop
returns-in_err-close-clause-stop g c =
    on_any c.from_residual.result _
    (close_stops c.args.self.now.faults c.args.self.now.kept (g.K.Sink.written c.args.self.now.sink.now) c.args.self.now.owed c.args.side c.args.counter c.args.value
    (g.K.Sink.written c.close.new.self.sink.now) c.in_err-close.ensures.stop)

pub returns-clause-told : goal.returns-clause-told
returns-clause-told g c =
    on_ok_weaker c.say.result
    (λ took.
    count_grows c.args.self.now.faults c.args.self.now.kept (g.K.Sink.written c.args.self.now.sink.now) c.args.self.now.owed c.args.side c.args.counter c.args.value
    c.close.new.self.faults (g.K.Sink.written c.close.new.self.sink.now) c.close.new.self.owed c.in_ok-close.ensures.took
    c.say.new.self.faults c.say.new.self.kept (g.K.Sink.written c.say.new.self.sink.now) c.say.new.self.owed (c.say.ensures.kept ∙ c.in_ok-close.ensures.kept) took)
    c.say.ensures.took

pub returns-clause-stop : goal.returns-clause-stop
returns-clause-stop g c =
    on_err_weaker c.say.result
    (λ part.
    count_stops c.args.self.now.faults c.args.self.now.kept (g.K.Sink.written c.args.self.now.sink.now) c.args.self.now.owed c.args.side c.args.counter c.args.value
    c.close.new.self.faults (g.K.Sink.written c.close.new.self.sink.now) c.close.new.self.owed c.in_ok-close.ensures.took (g.K.Sink.written c.say.new.self.sink.now) part)
    c.say.ensures.stop
