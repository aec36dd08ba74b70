-- What was kept, the last line, and what is owed.
use Rattle.std.proofs.lemmas.Result.{on_err_weaker, on_ok_weaker}
use Rattle.explain_air.proofs.AirSteps.{all_pushed, close_part, end_part, few_told, part_left}
use Rattle.explain_air.proofs.FlushLemmas.{flush_ends}
use Rattle.explain_air.proofs.air.ExplainAir.finish.Goals as goal
use Rattle.fh_base.proofs.CommonLemmas.{on_err as on_any}

pub returns-in_err-flush-clause-part : goal.returns-in_err-flush-clause-part
returns-in_err-flush-clause-part g c =
    on_any c.from_residual.result _
    (flush_ends c.args.self.now.faults c.args.self.now.kept (g.K.Sink.written c.args.self.now.sink.now) c.args.self.now.owed (g.K.Sink.written c.flush.new.self.sink.now) c.in_err-flush.ensures.stop)

pub returns-in_err-close-clause-part : goal.returns-in_err-close-clause-part
returns-in_err-close-clause-part g c =
    on_any c.from_residual-in_err-close.result _
    (λ s faults base events is.
    close_part c.flush.new.self.faults c.flush.new.self.kept (g.K.Sink.written c.flush.new.self.sink.now) c.flush.new.self.owed s faults base events
    (g.K.Sink.written c.close.new.self.sink.now) c.in_err-close.ensures.stop (c.in_ok-flush.ensures.told.told s faults base events is))

pub returns-in_err-say-clause-part : goal.returns-in_err-say-clause-part
returns-in_err-say-clause-part g c =
    on_any c.from_residual-in_err-say.result _
    (λ s faults base events is.
    end_part c.flush.new.self.faults c.flush.new.self.kept (g.K.Sink.written c.flush.new.self.sink.now) c.flush.new.self.owed s faults base events
    c.close.new.self.faults (g.K.Sink.written c.close.new.self.sink.now) c.close.new.self.owed c.in_ok-close.ensures.took
    (g.K.Sink.written c.say.new.self.sink.now) c.in_err-say.ensures.stop (c.in_ok-flush.ensures.told.told s faults base events is))

pub returns-clause-all : goal.returns-clause-all
returns-clause-all g c =
    on_ok_weaker c.push_out.result
    (λ all s faults base events is.
    all_pushed c.flush.new.self.faults c.flush.new.self.kept (g.K.Sink.written c.flush.new.self.sink.now) c.flush.new.self.owed s faults base events
    c.close.new.self.faults (g.K.Sink.written c.close.new.self.sink.now) c.close.new.self.owed c.in_ok-close.ensures.took
    c.say.new.self.faults (g.K.Sink.written c.say.new.self.sink.now) c.say.new.self.owed c.in_ok-say.ensures.took (g.K.Sink.written c.push_out.new.sink) all (c.in_ok-flush.ensures.told.told s faults base events is))
    c.push_out.ensures.all

pub returns-clause-part : goal.returns-clause-part
returns-clause-part g c =
    on_err_weaker c.push_out.result
    (λ part s faults base events is.
    part_left c.flush.new.self.faults c.flush.new.self.kept (g.K.Sink.written c.flush.new.self.sink.now) c.flush.new.self.owed s faults base events
    c.close.new.self.faults (g.K.Sink.written c.close.new.self.sink.now) c.close.new.self.owed c.in_ok-close.ensures.took
    c.say.new.self.faults (g.K.Sink.written c.say.new.self.sink.now) c.say.new.self.owed c.in_ok-say.ensures.took (g.K.Sink.written c.push_out.new.sink) part (c.in_ok-flush.ensures.told.told s faults base events is))
    c.push_out.ensures.part

pub returns-clause-few : goal.returns-clause-few
returns-clause-few g c =
    on_ok_weaker c.push_out.result
    (λ all s faults base events is. few_told s faults base events c.flush.new.self.faults c.flush.new.self.kept (g.K.Sink.written c.flush.new.self.sink.now) c.flush.new.self.owed (c.in_ok-flush.ensures.told.told s faults base events is))
    c.push_out.ensures.all
