use Rattle.std.proofs.Common.{rules, ◌≡◌, List, [], ◌++◌, inl, map, subst, ◌∙◌}
use Rattle.std.proofs.lemmas.Result.{IfErr-at_err, on_ok_weaker}
use Rattle.air_source.specs.declared.airs.AirFault.TheVariants.{Failed, NoMemory}
use Rattle.air_source.specs.declared.events.Event.{Event}
use Rattle.air_source.specs.declared.events.Event.TheVariants.{Cell}
use Rattle.air_source.specs.declared.events.Side.TheVariants.{Ru as AtRu}
use Rattle.document_traffic.specs.Replayed.{traffic_of}
use Rattle.document_traffic.specs.Settings.{compensation_of}
use Rattle.replay_laws.specs.Events.{arrivals_at}
use Rattle.ru_buffers.specs.Calls.{StandsFor}
use Rattle.ru_buffers.specs.Reporting.{due_of}
use Rattle.fronthaul_replay.specs.BoxTurns.{events_before}
use Rattle.fronthaul_replay.specs.Waiting.{begun_at, on_way}
use Rattle.fronthaul_replay.proofs.LandLemmas.{events_heard, here, may_land, meter_has, same, told_is, unit_stands, waits_on}
use Rattle.fronthaul_replay.proofs.TurnLemmas.{radio_heard, radio_landed}
use Rattle.fronthaul_replay.proofs.ReadyLemmas.{is_ready, low_enough, may_take, reported_then}
use Rattle.fronthaul_replay.proofs.BoxStops.{arrived_before, halts_landing, stops_due, stops_landing}
use Rattle.unit_moments.proofs.StopLemmas.{follows_heard}
use Rattle.fronthaul_replay.proofs.radio.radio_lands.Goals as goal

pub advance-requires-clause-given : goal.advance-requires-clause-given
advance-requires-clause-given g c = is_ready c.args.doc.now c.args.tick.0 c.args.ru.now c.requires.turn

pub returns-in_err-advance-clause-stop : goal.returns-in_err-advance-clause-stop
returns-in_err-advance-clause-stop g c failed =
    let same : c.advance.result ≡ c.from_residual.result = search rules in
    let d = c.args.doc.now in
    let a = c.requires.turn in
    stops_due g.A.ListeningAir.grew (g.A.ListeningAir.stopped Failed) d c.args.tick.0 a.history c.advance.new.ru c.args.out.now c.advance.new.out c.requires.document a.turn c.requires.ended
    (IfErr-at_err _ (same ∙ failed) (c.advance.ensures.stop d.config a.history a.stands))

pub returns-in_err-advance-clause-wants : goal.returns-in_err-advance-clause-wants
returns-in_err-advance-clause-wants g c wants =
    let same : c.advance.result ≡ c.from_residual.result = search rules in
    let d = c.args.doc.now in
    let a = c.requires.turn in
    inl (stops_due g.A.ListeningAir.grew (g.A.ListeningAir.stopped NoMemory) d c.args.tick.0 a.history c.advance.new.ru c.args.out.now c.advance.new.out c.requires.document a.turn c.requires.ended
    (IfErr-at_err _ (same ∙ wants) (c.advance.ensures.stop d.config a.history a.stands)))

pub land-requires-clause-unit : goal.land-requires-clause-unit
land-requires-clause-unit g c =
    let d = c.args.doc.now in
    let a = c.requires.turn in
    let ok = c.in_ok-advance.ensures in (
      d.config,
      [],
      reported_then d c.args.tick.0 a.history,
      may_take d c.args.tick a.history c.advance.new.ru (ok.stands d.config a.history a.stands) (ok.past d.config a.history a.stands a.turn.quiet.messages) ok.clock,
    )

pub land-requires-clause-some : goal.land-requires-clause-some
land-requires-clause-some g c =
    let d = c.args.doc.now in
    let tick = c.args.tick.0 in
    let w = c.requires.waits in (
      on_way d AtRu w.2.sent,
      compensation_of d AtRu,
      begun_at d AtRu tick,
      may_land d AtRu tick w.0 c.requires.document w.1 c.args.way.now w.2 c.args.meter.now c.requires.begun c.requires.late (low_enough tick c.requires.ended),
    )

pub returns-clause-heard : goal.returns-clause-heard
returns-clause-heard g c =
    let d = c.args.doc.now in
    let tick = c.args.tick.0 in
    let a = c.requires.turn in
    let w = c.requires.waits in
    let may = may_land d AtRu tick w.0 c.requires.document w.1 c.args.way.now w.2 c.args.meter.now c.requires.begun c.requires.late (low_enough tick c.requires.ended) in
    let ok = c.in_ok-advance.ensures in
    let cells = due_of d.config a.history tick in
    let grew = g.A.ListeningAir.grew d.config in
    on_ok_weaker c.land.result
    (λ told. subst (λ (es : List Event). grew (events_before d tick) c.args.out.now es c.land.new.out) (radio_heard d tick a.history c.requires.document a.turn c.requires.ended)
    (g.met.A.ListeningAir.grew_more d.config (events_before d tick) c.args.out.now c.advance.new.out c.land.new.out (map Cell cells) (arrivals_at AtRu (traffic_of d) tick)
    (ok.heard d.config a.history a.stands d.config (events_before d tick))
    (events_heard d AtRu tick w.0 c.requires.document w.1 c.args.way.now w.2 (grew (events_before d tick ++ map Cell cells)) c.advance.new.out c.land.new.out told)))
    (c.land.ensures.heard (on_way d AtRu w.2.sent) (compensation_of d AtRu) (begun_at d AtRu tick) d.config [] (reported_then d tick a.history) (events_before d tick ++ map Cell cells) may
    (may_take d c.args.tick a.history c.advance.new.ru (ok.stands d.config a.history a.stands) (ok.past d.config a.history a.stands a.turn.quiet.messages) ok.clock)
    (arrived_before d tick a.history cells a.turn))

pub returns-clause-landed : goal.returns-clause-landed
returns-clause-landed g c =
    let d = c.args.doc.now in
    let tick = c.args.tick.0 in
    let a = c.requires.turn in
    let w = c.requires.waits in
    let ok = c.in_ok-advance.ensures in
    let may = may_land d AtRu tick w.0 c.requires.document w.1 c.args.way.now w.2 c.args.meter.now c.requires.begun c.requires.late (low_enough tick c.requires.ended) in
    on_ok_weaker c.land.result
    (λ took. radio_landed d tick c.args.ru.now c.land.new.unit c.requires.document a c.requires.ended
    (unit_stands d AtRu tick w.0 c.requires.document w.1 c.args.way.now w.2 (StandsFor d.config c.land.new.unit) (reported_then d tick a.history) took.stands))
    (c.land.ensures.took (on_way d AtRu w.2.sent) (compensation_of d AtRu) (begun_at d AtRu tick) d.config [] (reported_then d tick a.history) may
    (may_take d c.args.tick a.history c.advance.new.ru (ok.stands d.config a.history a.stands) (ok.past d.config a.history a.stands a.turn.quiet.messages) ok.clock))

pub returns-clause-waits : goal.returns-clause-waits
returns-clause-waits g c left later waits =
    let d = c.args.doc.now in
    let tick = c.args.tick.0 in
    let may = may_land d AtRu tick left c.requires.document later c.args.way.now waits c.args.meter.now c.requires.begun c.requires.late (low_enough tick c.requires.ended) in
    on_ok_weaker c.land.result
    (λ l. waits_on d AtRu tick left c.requires.document later c.args.way.now waits c.land.new.meter c.land.new.way l)
    (c.land.ensures.landed (on_way d AtRu waits.sent) (compensation_of d AtRu) (begun_at d AtRu tick) may)

pub returns-clause-made : goal.returns-clause-made
returns-clause-made g c =
    let d = c.args.doc.now in
    let tick = c.args.tick.0 in
    let w = c.requires.waits in
    let may = may_land d AtRu tick w.0 c.requires.document w.1 c.args.way.now w.2 c.args.meter.now c.requires.begun c.requires.late (low_enough tick c.requires.ended) in
    on_ok_weaker c.land.result
    (λ l. meter_has d AtRu tick w.0 c.requires.document w.1 c.args.way.now w.2 c.land.new.meter c.land.new.way l)
    (c.land.ensures.landed (on_way d AtRu w.2.sent) (compensation_of d AtRu) (begun_at d AtRu tick) may)

pub returns-clause-stop : goal.returns-clause-stop
returns-clause-stop g c failed =
    let d = c.args.doc.now in
    let tick = c.args.tick.0 in
    let a = c.requires.turn in
    let w = c.requires.waits in
    let ok = c.in_ok-advance.ensures in
    let may = may_land d AtRu tick w.0 c.requires.document w.1 c.args.way.now w.2 c.args.meter.now c.requires.begun c.requires.late (low_enough tick c.requires.ended) in
    let cells = due_of d.config a.history tick in
    let xs = here d AtRu tick w.0 c.requires.document w.1 c.args.way.now w.2 in
    stops_landing (g.A.ListeningAir.grew d.config (events_before d tick)) (g.A.ListeningAir.grew d.config (events_before d tick ++ map Cell cells)) (g.A.ListeningAir.stopped Failed) d tick (begun_at d AtRu tick) a.history xs c.land.new.unit c.args.out.now c.advance.new.out c.land.new.out
    c.requires.document a.turn c.requires.ended (told_is AtRu d tick xs (same d AtRu tick w.0 c.requires.document w.1 c.args.way.now w.2))
    (follows_heard g.A.ListeningAir.grew g.met.A.ListeningAir.grew_more d.config (events_before d tick) (map Cell cells) c.args.out.now c.advance.new.out
    (ok.heard d.config a.history a.stands d.config (events_before d tick)))
    (c.land.ensures.stop (on_way d AtRu w.2.sent) (compensation_of d AtRu) (begun_at d AtRu tick) d.config [] (reported_then d tick a.history) (events_before d tick ++ map Cell cells) may
    (may_take d c.args.tick a.history c.advance.new.ru (ok.stands d.config a.history a.stands) (ok.past d.config a.history a.stands a.turn.quiet.messages) ok.clock)
    (arrived_before d tick a.history cells a.turn) failed)

pub returns-clause-wants : goal.returns-clause-wants
returns-clause-wants g c wants =
    let d = c.args.doc.now in
    let tick = c.args.tick.0 in
    let a = c.requires.turn in
    let w = c.requires.waits in
    let ok = c.in_ok-advance.ensures in
    let may = may_land d AtRu tick w.0 c.requires.document w.1 c.args.way.now w.2 c.args.meter.now c.requires.begun c.requires.late (low_enough tick c.requires.ended) in
    let cells = due_of d.config a.history tick in
    let xs = here d AtRu tick w.0 c.requires.document w.1 c.args.way.now w.2 in
    halts_landing (g.A.ListeningAir.grew d.config (events_before d tick)) (g.A.ListeningAir.grew d.config (events_before d tick ++ map Cell cells)) (g.A.ListeningAir.stopped NoMemory) d tick (begun_at d AtRu tick) a.history xs c.land.new.unit c.args.out.now c.advance.new.out c.land.new.out
    c.requires.document a.turn c.requires.ended (told_is AtRu d tick xs (same d AtRu tick w.0 c.requires.document w.1 c.args.way.now w.2))
    (follows_heard g.A.ListeningAir.grew g.met.A.ListeningAir.grew_more d.config (events_before d tick) (map Cell cells) c.args.out.now c.advance.new.out
    (ok.heard d.config a.history a.stands d.config (events_before d tick)))
    (c.land.ensures.wants (on_way d AtRu w.2.sent) (compensation_of d AtRu) (begun_at d AtRu tick) d.config [] (reported_then d tick a.history) (events_before d tick ++ map Cell cells) may
    (may_take d c.args.tick a.history c.advance.new.ru (ok.stands d.config a.history a.stands) (ok.past d.config a.history a.stands a.turn.quiet.messages) ok.clock)
    (arrived_before d tick a.history cells a.turn) wants)

pub returns-clause-same : goal.returns-clause-same
returns-clause-same g c = g.met.A.ListeningAir.same_more c.args.out.now c.advance.new.out c.land.new.out c.advance.ensures.same c.land.ensures.same
