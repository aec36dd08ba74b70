use Rattle.std.proofs.Common.{rules, ◌≡◌, inl, ◌∙◌}
use Rattle.std.proofs.lemmas.Result.{IfErr-at_err, on_ok_weaker}
use Rattle.air_source.specs.declared.airs.AirFault.TheVariants.{Failed, NoMemory}
use Rattle.air_source.specs.declared.events.Side.TheVariants.{Du as AtDu}
use Rattle.document_traffic.specs.Settings.{compensation_of}
use Rattle.du_intake.specs.Calls.{IntakeMayTake}
use Rattle.fronthaul_replay.specs.Waiting.{begun_at, on_way}
use Rattle.fronthaul_replay.proofs.LandLemmas.{events_heard, here, may_land, meter_has, same, told_is, unit_stands, waits_on}
use Rattle.document_traffic.specs.Replayed.{traffic_of}
use Rattle.replay_laws.specs.Events.{arrivals_at}
use Rattle.fronthaul_replay.specs.IntakeTurns.{heard_before, planned_for}
use Rattle.unit_moments.specs.Heard.{HeardAnyhow}
use Rattle.unit_moments.proofs.StopLemmas.{follows_anyhow}
use Rattle.fronthaul_replay.proofs.IntakeMomentLemmas.{has_landed, heard_all, landed_then, turn_then}
use Rattle.fronthaul_replay.proofs.IntakeStopLemmas.{came_before, halts_landing, stops_closing, stops_landing}
use Rattle.fronthaul_replay.proofs.ReadyLemmas.{intake_may_take, low_enough, stands_some}
use Rattle.fronthaul_replay.proofs.intake.intake_lands.Given.{Over}
use Rattle.fronthaul_replay.proofs.intake.intake_lands.Goals as goal
use Rattle.fronthaul_replay.proofs.intake.intake_lands.Goals.{In_ok-land}

-- all has landed, and the intake has taken it
taken : (g : Over) (c : In_ok-land g) → IntakeMayTake c.land.new.unit c.args.doc.now.config (planned_for c.args.doc.now) c.args.tick.0 (landed_then c.args.doc.now c.args.tick.0 c.requires.turn.history)
taken g c =
    let d = c.args.doc.now in
    let tick = c.args.tick.0 in
    let a = c.requires.turn in
    let w = c.requires.waits in
    let may = may_land d AtDu tick w.0 c.requires.document w.1 c.args.way.now w.2 c.args.meter.now c.requires.begun c.requires.late (low_enough tick c.requires.ended) in
    unit_stands d AtDu tick w.0 c.requires.document w.1 c.args.way.now w.2 (IntakeMayTake c.land.new.unit d.config (planned_for d) tick) a.history
    (c.in_ok-land.ensures.took (on_way d AtDu w.2.sent) (compensation_of d AtDu) (begun_at d AtDu tick) d.config (planned_for d) a.history may
    (intake_may_take d tick c.args.intake.now a c.requires.ended))

-- and the frames were told
told_here : (g : Over) (c : In_ok-land g)
    → g.A.ListeningAir.grew c.args.doc.now.config (heard_before c.args.doc.now c.args.tick.0) c.args.out.now (arrivals_at AtDu (traffic_of c.args.doc.now) c.args.tick.0) c.land.new.out
told_here g c =
    let d = c.args.doc.now in
    let tick = c.args.tick.0 in
    let a = c.requires.turn in
    let w = c.requires.waits in
    let may = may_land d AtDu tick w.0 c.requires.document w.1 c.args.way.now w.2 c.args.meter.now c.requires.begun c.requires.late (low_enough tick c.requires.ended) in
    events_heard d AtDu tick w.0 c.requires.document w.1 c.args.way.now w.2 (g.A.ListeningAir.grew d.config (heard_before d tick)) c.args.out.now c.land.new.out
    (c.in_ok-land.ensures.heard (on_way d AtDu w.2.sent) (compensation_of d AtDu) (begun_at d AtDu tick) d.config (planned_for d) a.history (heard_before d tick) may
    (intake_may_take d tick c.args.intake.now a c.requires.ended) (came_before d tick c.args.intake.now a))

pub land-requires-clause-unit : goal.land-requires-clause-unit
land-requires-clause-unit g c =
    let d = c.args.doc.now in
    let a = c.requires.turn in
    (d.config, planned_for d, a.history, intake_may_take d c.args.tick.0 c.args.intake.now a c.requires.ended)

pub land-requires-clause-some : goal.land-requires-clause-some
land-requires-clause-some g c =
    let d = c.args.doc.now in
    let tick = c.args.tick.0 in
    let w = c.requires.waits in (
      on_way d AtDu w.2.sent,
      compensation_of d AtDu,
      begun_at d AtDu tick,
      may_land d AtDu tick w.0 c.requires.document w.1 c.args.way.now w.2 c.args.meter.now c.requires.begun c.requires.late (low_enough tick c.requires.ended),
    )

pub returns-in_err-land-clause-stop : goal.returns-in_err-land-clause-stop
returns-in_err-land-clause-stop g c failed =
    let same_result : c.land.result ≡ c.from_residual.result = search rules in
    let d = c.args.doc.now in
    let tick = c.args.tick.0 in
    let a = c.requires.turn in
    let w = c.requires.waits in
    let may = may_land d AtDu tick w.0 c.requires.document w.1 c.args.way.now w.2 c.args.meter.now c.requires.begun c.requires.late (low_enough tick c.requires.ended) in
    let xs = here d AtDu tick w.0 c.requires.document w.1 c.args.way.now w.2 in
    stops_landing (g.A.ListeningAir.grew d.config (heard_before d tick)) (g.A.ListeningAir.stopped Failed) d tick (begun_at d AtDu tick) c.args.intake.now c.land.new.unit xs c.args.out.now c.land.new.out a
    (told_is AtDu d tick xs (same d AtDu tick w.0 c.requires.document w.1 c.args.way.now w.2))
    (c.land.ensures.stop (on_way d AtDu w.2.sent) (compensation_of d AtDu) (begun_at d AtDu tick) d.config (planned_for d) a.history (heard_before d tick) may
    (intake_may_take d tick c.args.intake.now a c.requires.ended) (came_before d tick c.args.intake.now a) (same_result ∙ failed))

pub returns-in_err-land-clause-wants : goal.returns-in_err-land-clause-wants
returns-in_err-land-clause-wants g c wants =
    let same_result : c.land.result ≡ c.from_residual.result = search rules in
    let d = c.args.doc.now in
    let tick = c.args.tick.0 in
    let a = c.requires.turn in
    let w = c.requires.waits in
    let may = may_land d AtDu tick w.0 c.requires.document w.1 c.args.way.now w.2 c.args.meter.now c.requires.begun c.requires.late (low_enough tick c.requires.ended) in
    let xs = here d AtDu tick w.0 c.requires.document w.1 c.args.way.now w.2 in
    halts_landing (g.A.ListeningAir.grew d.config (heard_before d tick)) (g.A.ListeningAir.stopped NoMemory) d tick (begun_at d AtDu tick) c.args.intake.now c.land.new.unit xs c.args.out.now c.land.new.out a
    (told_is AtDu d tick xs (same d AtDu tick w.0 c.requires.document w.1 c.args.way.now w.2))
    (c.land.ensures.wants (on_way d AtDu w.2.sent) (compensation_of d AtDu) (begun_at d AtDu tick) d.config (planned_for d) a.history (heard_before d tick) may
    (intake_may_take d tick c.args.intake.now a c.requires.ended) (came_before d tick c.args.intake.now a) (same_result ∙ wants))

pub close_until-requires-clause-unit : goal.close_until-requires-clause-unit
close_until-requires-clause-unit g c =
    let all = taken g (goal.at.close_until-requires-clause-unit g c).In_ok-land in
    stands_some c.land.new.unit c.args.doc.now.config (planned_for c.args.doc.now) _ all.stands

pub close_until-requires-clause-order : goal.close_until-requires-clause-order
close_until-requires-clause-order g c = (taken g (goal.at.close_until-requires-clause-order g c).In_ok-land).order

pub returns-clause-heard : goal.returns-clause-heard
returns-clause-heard g c =
    let d = c.args.doc.now in
    let tick = c.args.tick.0 in
    let a = c.requires.turn in
    let ok = (goal.at.returns-clause-heard g c).In_ok-land in
    on_ok_weaker c.close_until.result
    (λ second. heard_all (g.A.ListeningAir.grew d.config (heard_before d tick)) (HeardAnyhow g.A.ListeningAir.grew) d tick a.history (landed_then d tick a.history)
    c.args.out.now c.land.new.out c.close_until.new.out (has_landed d tick c.args.intake.now c.requires.document a c.requires.ended)
    (follows_anyhow g.A.ListeningAir.grew g.met.A.ListeningAir.grew_more d.config (heard_before d tick) (arrivals_at AtDu (traffic_of d) tick) c.args.out.now c.land.new.out (told_here g ok)) second)
    (c.close_until.ensures.heard d.config (planned_for d) (landed_then d tick a.history) (taken g ok).stands)

pub returns-clause-turn : goal.returns-clause-turn
returns-clause-turn g c =
    let d = c.args.doc.now in
    let tick = c.args.tick.0 in
    let a = c.requires.turn in
    let all = taken g (goal.at.returns-clause-turn g c).In_ok-land in
    on_ok_weaker c.close_until.result
    (λ stands. turn_then d tick a.history (landed_then d tick a.history) c.close_until.new.intake (has_landed d tick c.args.intake.now c.requires.document a c.requires.ended) stands)
    (c.close_until.ensures.stands d.config (planned_for d) (landed_then d tick a.history) all.stands)

pub returns-clause-waits : goal.returns-clause-waits
returns-clause-waits g c left later waits =
    let d = c.args.doc.now in
    let tick = c.args.tick.0 in
    let may = may_land d AtDu tick left c.requires.document later c.args.way.now waits c.args.meter.now c.requires.begun c.requires.late (low_enough tick c.requires.ended) in
    let l = c.in_ok-land.ensures.landed (on_way d AtDu waits.sent) (compensation_of d AtDu) (begun_at d AtDu tick) may in
    on_ok_weaker c.close_until.result
    (λ clock. waits_on d AtDu tick left c.requires.document later c.args.way.now waits c.land.new.meter c.land.new.way l)
    c.close_until.ensures.clock

pub returns-clause-made : goal.returns-clause-made
returns-clause-made g c =
    let d = c.args.doc.now in
    let tick = c.args.tick.0 in
    let w = c.requires.waits in
    let may = may_land d AtDu tick w.0 c.requires.document w.1 c.args.way.now w.2 c.args.meter.now c.requires.begun c.requires.late (low_enough tick c.requires.ended) in
    let l = c.in_ok-land.ensures.landed (on_way d AtDu w.2.sent) (compensation_of d AtDu) (begun_at d AtDu tick) may in
    on_ok_weaker c.close_until.result
    (λ clock. meter_has d AtDu tick w.0 c.requires.document w.1 c.args.way.now w.2 c.land.new.meter c.land.new.way l)
    c.close_until.ensures.clock

pub returns-clause-stop : goal.returns-clause-stop
returns-clause-stop g c failed =
    let d = c.args.doc.now in
    let tick = c.args.tick.0 in
    let a = c.requires.turn in
    let ok = (goal.at.returns-clause-stop g c).In_ok-land in
    stops_closing (g.A.ListeningAir.grew d.config (heard_before d tick)) (HeardAnyhow g.A.ListeningAir.grew) (g.A.ListeningAir.stopped Failed) d tick a.history (landed_then d tick a.history)
    c.close_until.new.intake c.args.out.now c.land.new.out c.close_until.new.out (has_landed d tick c.args.intake.now c.requires.document a c.requires.ended)
    (follows_anyhow g.A.ListeningAir.grew g.met.A.ListeningAir.grew_more d.config (heard_before d tick) (arrivals_at AtDu (traffic_of d) tick) c.args.out.now c.land.new.out (told_here g ok))
    (IfErr-at_err _ failed (c.close_until.ensures.stop d.config (planned_for d) (landed_then d tick a.history) (taken g ok).stands))

pub returns-clause-wants : goal.returns-clause-wants
returns-clause-wants g c wants =
    let d = c.args.doc.now in
    let tick = c.args.tick.0 in
    let a = c.requires.turn in
    let ok = (goal.at.returns-clause-wants g c).In_ok-land in
    inl (stops_closing (g.A.ListeningAir.grew d.config (heard_before d tick)) (HeardAnyhow g.A.ListeningAir.grew) (g.A.ListeningAir.stopped NoMemory) d tick a.history (landed_then d tick a.history)
    c.close_until.new.intake c.args.out.now c.land.new.out c.close_until.new.out (has_landed d tick c.args.intake.now c.requires.document a c.requires.ended)
    (follows_anyhow g.A.ListeningAir.grew g.met.A.ListeningAir.grew_more d.config (heard_before d tick) (arrivals_at AtDu (traffic_of d) tick) c.args.out.now c.land.new.out (told_here g ok))
    (IfErr-at_err _ wants (c.close_until.ensures.stop d.config (planned_for d) (landed_then d tick a.history) (taken g ok).stands)))

pub returns-clause-same : goal.returns-clause-same
returns-clause-same g c = g.met.A.ListeningAir.same_more c.args.out.now c.land.new.out c.close_until.new.out c.land.ensures.same c.close_until.ensures.same

pub close_until-requires-clause-time : goal.close_until-requires-clause-time
close_until-requires-clause-time g c = (taken g (goal.at.close_until-requires-clause-time g c).In_ok-land).time
