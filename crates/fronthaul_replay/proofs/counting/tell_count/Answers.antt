use Rattle.std.proofs.Common.{List, sym, subst}
use Rattle.std.proofs.lemmas.Result.{IfErr-weaker}
use Rattle.air_source.specs.Stops.{StopsIn}
use Rattle.air_source.specs.declared.events.Event.{Event}
use Rattle.air_source.specs.declared.events.Event.TheVariants.{Count}
use Rattle.air_source.proofs.Stops.{stops_now}
use Rattle.unit_moments.specs.Heard.{HeardAnyhow}
use Rattle.fronthaul_replay.proofs.CountLemmas.{some_event}
use Rattle.fronthaul_replay.proofs.counting.tell_count.Goals as goal

pub returns-clause-stop : goal.returns-clause-stop
returns-clause-stop g c =
    let k = c.args.counter in
    let value = c.args.value in
    IfErr-weaker c.count.result _ _ (λ f last.
    subst (λ (es : List Event). StopsIn (HeardAnyhow g.A.ListeningAir.grew) (g.A.ListeningAir.stopped f) es c.args.out.now c.count.new.self)
    (sym (some_event c.args.side value k c.if-value-eq0.false))
    (stops_now (HeardAnyhow g.A.ListeningAir.grew) (g.A.ListeningAir.stopped f) (λ a k earlier. g.met.A.ListeningAir.grew_none k earlier a) (Count c.args.side k value) c.args.out.now c.count.new.self last)) c.count.ensures.stop
