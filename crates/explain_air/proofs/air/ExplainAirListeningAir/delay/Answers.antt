-- The lines of the last frame, and then the delay.
use Rattle.std.proofs.Common.{ℤ, List, [], ◌∷◌, IfErr, OnOk, subst, to_z, of_z}
use Rattle.std.specs.Int.{w128}
use Rattle.std.proofs.lemmas.Int.{to_z-of_z}
use Rattle.std.proofs.lemmas.Result.{on_err_weaker, on_ok_weaker}
use Rattle.air_source.specs.declared.events.Event.{Event}
use Rattle.air_source.specs.declared.events.Event.TheVariants as event
use Rattle.explain_air.proofs.FlushLemmas.{event_grows, event_stops, flush_stops}
use Rattle.explain_air.specs.Airs.{Grew, Stopped}
use Rattle.window_config.specs.declared.config.Config.{Config}
use Rattle.explain_air.proofs.air.ExplainAirListeningAir.delay.Goals as goal
use Rattle.fh_base.proofs.CommonLemmas.{on_err as on_any}

pub returns-in_err-flush-clause-stop : goal.returns-in_err-flush-clause-stop
returns-in_err-flush-clause-stop g c =
    on_any c.from_residual.result _
    (flush_stops c.args.self.now.faults c.args.self.now.kept (g.K.Sink.written c.args.self.now.sink.now) c.args.self.now.owed (event.Delay c.args.at c.args.side c.args.id c.args.value)
    (g.K.Sink.written c.flush.new.self.sink.now) c.in_err-flush.ensures.stop)

pub returns-clause-heard : goal.returns-clause-heard
returns-clause-heard g c =
    let passed : ℤ = to_z w128 (of_z w128 c.args.value) in
    subst
    (λ (value : ℤ).
    OnOk c.tell_delay.result
    ((cfg : Config) (earlier : List Event) → Grew cfg earlier c.args.self.now.faults c.args.self.now.kept (g.K.Sink.written c.args.self.now.sink.now) c.args.self.now.owed
    (event.Delay c.args.at c.args.side c.args.id value ∷ []) c.tell_delay.new.self.faults c.tell_delay.new.self.kept (g.K.Sink.written c.tell_delay.new.self.sink.now) c.tell_delay.new.self.owed))
    (to_z-of_z w128 c.args.value c.ranges.value)
    (on_ok_weaker c.tell_delay.result
    (λ next.
    event_grows c.args.self.now.faults c.args.self.now.kept (g.K.Sink.written c.args.self.now.sink.now) c.args.self.now.owed (event.Delay c.args.at c.args.side c.args.id passed)
    c.flush.new.self.faults c.flush.new.self.kept (g.K.Sink.written c.flush.new.self.sink.now) c.flush.new.self.owed c.in_ok-flush.ensures.told
    c.tell_delay.new.self.faults c.tell_delay.new.self.kept (g.K.Sink.written c.tell_delay.new.self.sink.now) c.tell_delay.new.self.owed next)
    c.tell_delay.ensures.told)

pub returns-clause-stop : goal.returns-clause-stop
returns-clause-stop g c =
    let passed : ℤ = to_z w128 (of_z w128 c.args.value) in
    subst
    (λ (value : ℤ).
    IfErr c.tell_delay.result (λ _. Stopped c.args.self.now.faults c.args.self.now.kept (g.K.Sink.written c.args.self.now.sink.now) c.args.self.now.owed (event.Delay c.args.at c.args.side c.args.id value)
    (g.K.Sink.written c.tell_delay.new.self.sink.now)))
    (to_z-of_z w128 c.args.value c.ranges.value)
    (on_err_weaker c.tell_delay.result
    (event_stops c.args.self.now.faults c.args.self.now.kept (g.K.Sink.written c.args.self.now.sink.now) c.args.self.now.owed (event.Delay c.args.at c.args.side c.args.id passed)
    c.flush.new.self.faults c.flush.new.self.kept (g.K.Sink.written c.flush.new.self.sink.now) c.flush.new.self.owed c.in_ok-flush.ensures.told (g.K.Sink.written c.tell_delay.new.self.sink.now))
    c.tell_delay.ensures.stop)
