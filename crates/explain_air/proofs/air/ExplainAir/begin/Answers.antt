-- The first line, and those of the configuration.
use Rattle.std.proofs.Common.{◌∙◌}
use Rattle.std.proofs.lemmas.Result.{on_err_weaker, on_ok_weaker}
use Rattle.explain_air.proofs.BeginLemmas.{begun, config_part, head_part}
use Rattle.explain_air.proofs.air.ExplainAir.begin.Goals as goal
use Rattle.fh_base.proofs.CommonLemmas.{on_err as on_any}

pub returns-in_err-say-clause-part : goal.returns-in_err-say-clause-part
returns-in_err-say-clause-part g c =
    on_any c.from_residual.result _
    (λ s events is.
    head_part c.args.self.now.faults (g.K.Sink.written c.args.self.now.sink.now) c.args.self.now.owed c.requires.owed (g.K.Sink.written c.say.new.self.sink.now) c.in_err-say.ensures.stop s events)

pub returns-clause-heard : goal.returns-clause-heard
returns-clause-heard g c =
    on_ok_weaker c.tell_config.result
    (λ took.
    begun c.args.self.now.faults (g.K.Sink.written c.args.self.now.sink.now) c.args.self.now.owed c.requires.owed
    c.say.new.self.faults (g.K.Sink.written c.say.new.self.sink.now) c.say.new.self.owed c.in_ok-say.ensures.took c.args.config.now
    c.tell_config.new.self.faults (g.K.Sink.written c.tell_config.new.self.sink.now) c.tell_config.new.self.owed c.args.self.now.kept c.tell_config.new.self.kept took
    (c.tell_config.ensures.kept ∙ c.in_ok-say.ensures.kept))
    c.tell_config.ensures.took

pub returns-clause-part : goal.returns-clause-part
returns-clause-part g c =
    on_err_weaker c.tell_config.result
    (λ front s events is.
    config_part c.args.self.now.faults (g.K.Sink.written c.args.self.now.sink.now) c.args.self.now.owed c.requires.owed
    c.say.new.self.faults (g.K.Sink.written c.say.new.self.sink.now) c.say.new.self.owed c.in_ok-say.ensures.took c.args.config.now
    (g.K.Sink.written c.tell_config.new.self.sink.now) front s events is)
    c.tell_config.ensures.stop
