use Rattle.std.proofs.Common.{rules, ◌≡◌, ◌+ℤ◌, pos, [], inl, ◌∙◌, refl}
use Rattle.std.proofs.lemmas.Result.{IfErr-at_err, on_ok_weaker}
use Rattle.air_source.specs.declared.airs.AirFault.TheVariants.{Failed, NoMemory}
use Rattle.air_source.specs.declared.events.Side.TheVariants.{Ru, Du}
use Rattle.document_traffic.specs.Settings.{compensation_of}
use Rattle.fronthaul_replay.specs.IntakeTurns.{planned_for}
use Rattle.fronthaul_replay.proofs.BoxNext.{intake_begins}
use Rattle.fronthaul_replay.proofs.TurnLemmas.{first_turn}
use Rattle.fronthaul_replay.proofs.CountLemmas.{all_doings, heard_all, intake_counts, over, radio_counts, stops_intake_count, stops_radio_count, told_for}
use Rattle.fronthaul_replay.proofs.StopLemmas.{halts_passing, stops_passing}
use Rattle.air_source.proofs.Causes.{air_cause_since}
use Rattle.fronthaul_replay.specs.BoxTurns.{events_before}
use Rattle.replay_laws.specs.Moments.{end_of_time}
use Rattle.unit_moments.specs.Heard.{HeardAnyhow}
use Rattle.unit_moments.specs.HeardLaws.{anyhow_more}
use Rattle.unit_moments.proofs.StopLemmas.{follows_anyhow}
use Rattle.fronthaul_replay.proofs.replays.run.Goals as goal
use Rattle.unit_moments.proofs.CauseLemmas.{cause_passed}

pub pass-requires-clause-moment : goal.pass-requires-clause-moment
pass-requires-clause-moment g c =
    let d = c.args.doc.now in
    record {
      turn = record { radio = first_turn d c.args.ru.now c.requires.unit; intake = intake_begins d c.args.intake.now c.requires.intake };
      waits = c.requires.waits;
      measures = c.requires.measures;
    }

pub returns-in_err-pass-clause-stop : goal.returns-in_err-pass-clause-stop
returns-in_err-pass-clause-stop g c failed =
    let same : c.pass.result ≡ c.from_residual.result = search rules in
    stops_passing (g.A.ListeningAir.grew c.args.doc.now.config []) (g.A.ListeningAir.stopped Failed) c.args.doc.now c.pass.new.ru c.pass.new.intake c.args.out.now c.pass.new.out (c.pass.ensures.stop (same ∙ failed))

pub returns-in_err-pass-clause-wants : goal.returns-in_err-pass-clause-wants
returns-in_err-pass-clause-wants g c wants =
    let same : c.pass.result ≡ c.from_residual.result = search rules in
    halts_passing (g.A.ListeningAir.grew c.args.doc.now.config []) (g.A.ListeningAir.stopped NoMemory) c.args.doc.now c.pass.new.ru c.pass.new.intake c.args.out.now c.pass.new.out (c.pass.ensures.wants (same ∙ wants))

-- ---- the radio unit's counters

pub tell_counts-requires : goal.tell_counts-requires
tell_counts-requires g c = let d = c.args.doc.now in record { some = (compensation_of d Ru, all_doings d Ru, c.in_ok-pass.ensures.measured.ru) }

pub returns-in_err-tell_counts-clause-stop : goal.returns-in_err-tell_counts-clause-stop
returns-in_err-tell_counts-clause-stop g c failed =
    let same : c.tell_counts.result ≡ c.from_residual-in_err-tell_counts.result = search rules in
    let d = c.args.doc.now in
    let at = c.in_ok-pass.ensures.over in
    let done = over d c.pass.new.ru c.pass.new.intake c.requires.document at in
    let radio = c.counters.result.now in
    let ru = c.in_ok-pass.ensures.measured.ru in
    stops_radio_count (g.A.ListeningAir.grew d.config []) (HeardAnyhow g.A.ListeningAir.grew) d (g.A.ListeningAir.stopped Failed) c.pass.new.ru c.pass.new.intake radio c.args.out.now c.pass.new.out c.tell_counts.new.out at
    (radio_counts d c.pass.new.ru radio done.radio (c.counters.ensures d.config done.radio.history done.radio.stands))
    (follows_anyhow g.A.ListeningAir.grew g.met.A.ListeningAir.grew_more d.config [] (events_before d (end_of_time +ℤ pos 1)) c.args.out.now c.pass.new.out c.in_ok-pass.ensures.heard)
    (IfErr-at_err _ (same ∙ failed) (c.tell_counts.ensures.stop (compensation_of d Ru) (all_doings d Ru) ru))

pub returns-in_err-tell_counts-clause-wants : goal.returns-in_err-tell_counts-clause-wants
returns-in_err-tell_counts-clause-wants g c wants =
    let same : c.tell_counts.result ≡ c.from_residual-in_err-tell_counts.result = search rules in
    let d = c.args.doc.now in
    let at = c.in_ok-pass.ensures.over in
    let done = over d c.pass.new.ru c.pass.new.intake c.requires.document at in
    let radio = c.counters.result.now in
    let ru = c.in_ok-pass.ensures.measured.ru in
    inl (stops_radio_count (g.A.ListeningAir.grew d.config []) (HeardAnyhow g.A.ListeningAir.grew) d (g.A.ListeningAir.stopped NoMemory) c.pass.new.ru c.pass.new.intake radio c.args.out.now c.pass.new.out c.tell_counts.new.out at
    (radio_counts d c.pass.new.ru radio done.radio (c.counters.ensures d.config done.radio.history done.radio.stands))
    (follows_anyhow g.A.ListeningAir.grew g.met.A.ListeningAir.grew_more d.config [] (events_before d (end_of_time +ℤ pos 1)) c.args.out.now c.pass.new.out c.in_ok-pass.ensures.heard)
    (IfErr-at_err _ (same ∙ wants) (c.tell_counts.ensures.stop (compensation_of d Ru) (all_doings d Ru) ru)))

pub returns-in_err-tell_counts-clause-same : goal.returns-in_err-tell_counts-clause-same
returns-in_err-tell_counts-clause-same g c = g.met.A.ListeningAir.same_more c.args.out.now c.pass.new.out c.tell_counts.new.out c.pass.ensures.same c.tell_counts.ensures.same

-- ---- and the distributed unit's

pub tell_counts-requires-2 : goal.tell_counts-requires-2
tell_counts-requires-2 g c = let d = c.args.doc.now in record { some = (compensation_of d Du, all_doings d Du, c.in_ok-pass.ensures.measured.du) }

pub returns-clause-heard : goal.returns-clause-heard
returns-clause-heard g c =
    let d = c.args.doc.now in
    let at = c.in_ok-pass.ensures.over in
    let done = over d c.pass.new.ru c.pass.new.intake c.requires.document at in
    let radio = c.counters.result.now in
    let ru = c.in_ok-pass.ensures.measured.ru in
    let taken = c.counters-2.result.now in
    let du = c.in_ok-pass.ensures.measured.du in
    on_ok_weaker c.tell_counts-2.result (λ last.
    heard_all (g.A.ListeningAir.grew d.config []) (HeardAnyhow g.A.ListeningAir.grew) d (told_for Ru d radio) (told_for Du d taken)
    c.args.out.now c.pass.new.out c.tell_counts.new.out c.tell_counts-2.new.out
    (radio_counts d c.pass.new.ru radio done.radio (c.counters.ensures d.config done.radio.history done.radio.stands))
    (intake_counts d c.pass.new.intake taken done.intake (c.counters-2.ensures d.config (planned_for d) done.intake.history done.intake.stands))
    (follows_anyhow g.A.ListeningAir.grew g.met.A.ListeningAir.grew_more d.config [] (events_before d (end_of_time +ℤ pos 1)) c.args.out.now c.pass.new.out c.in_ok-pass.ensures.heard)
    (λ e more. anyhow_more g.A.ListeningAir.grew g.met.A.ListeningAir.grew_more c.pass.new.out c.tell_counts.new.out e (told_for Ru d radio) more
    (c.in_ok-tell_counts.ensures.heard (compensation_of d Ru) (all_doings d Ru) ru)) last)
    (c.tell_counts-2.ensures.heard (compensation_of d Du) (all_doings d Du) du)

pub returns-clause-done : goal.returns-clause-done
returns-clause-done g c =
    let d = c.args.doc.now in
    on_ok_weaker c.tell_counts-2.result (λ last. over d c.pass.new.ru c.pass.new.intake c.requires.document c.in_ok-pass.ensures.over)
    (c.tell_counts-2.ensures.heard (compensation_of d Du) (all_doings d Du) c.in_ok-pass.ensures.measured.du)

pub returns-clause-stop : goal.returns-clause-stop
returns-clause-stop g c failed =
    let d = c.args.doc.now in
    let at = c.in_ok-pass.ensures.over in
    let done = over d c.pass.new.ru c.pass.new.intake c.requires.document at in
    let radio = c.counters.result.now in
    let ru = c.in_ok-pass.ensures.measured.ru in
    let taken = c.counters-2.result.now in
    let du = c.in_ok-pass.ensures.measured.du in
    stops_intake_count (g.A.ListeningAir.grew d.config []) (HeardAnyhow g.A.ListeningAir.grew) d (g.A.ListeningAir.stopped Failed) c.pass.new.ru c.pass.new.intake radio taken
    c.args.out.now c.pass.new.out c.tell_counts.new.out c.tell_counts-2.new.out at
    (radio_counts d c.pass.new.ru radio done.radio (c.counters.ensures d.config done.radio.history done.radio.stands))
    (intake_counts d c.pass.new.intake taken done.intake (c.counters-2.ensures d.config (planned_for d) done.intake.history done.intake.stands))
    (follows_anyhow g.A.ListeningAir.grew g.met.A.ListeningAir.grew_more d.config [] (events_before d (end_of_time +ℤ pos 1)) c.args.out.now c.pass.new.out c.in_ok-pass.ensures.heard)
    (λ e more. anyhow_more g.A.ListeningAir.grew g.met.A.ListeningAir.grew_more c.pass.new.out c.tell_counts.new.out e (told_for Ru d radio) more
    (c.in_ok-tell_counts.ensures.heard (compensation_of d Ru) (all_doings d Ru) ru)) (IfErr-at_err _ failed (c.tell_counts-2.ensures.stop (compensation_of d Du) (all_doings d Du) du))

pub returns-clause-wants : goal.returns-clause-wants
returns-clause-wants g c wants =
    let d = c.args.doc.now in
    let at = c.in_ok-pass.ensures.over in
    let done = over d c.pass.new.ru c.pass.new.intake c.requires.document at in
    let radio = c.counters.result.now in
    let ru = c.in_ok-pass.ensures.measured.ru in
    let taken = c.counters-2.result.now in
    let du = c.in_ok-pass.ensures.measured.du in
    inl (stops_intake_count (g.A.ListeningAir.grew d.config []) (HeardAnyhow g.A.ListeningAir.grew) d (g.A.ListeningAir.stopped NoMemory) c.pass.new.ru c.pass.new.intake radio taken
    c.args.out.now c.pass.new.out c.tell_counts.new.out c.tell_counts-2.new.out at
    (radio_counts d c.pass.new.ru radio done.radio (c.counters.ensures d.config done.radio.history done.radio.stands))
    (intake_counts d c.pass.new.intake taken done.intake (c.counters-2.ensures d.config (planned_for d) done.intake.history done.intake.stands))
    (follows_anyhow g.A.ListeningAir.grew g.met.A.ListeningAir.grew_more d.config [] (events_before d (end_of_time +ℤ pos 1)) c.args.out.now c.pass.new.out c.in_ok-pass.ensures.heard)
    (λ e more. anyhow_more g.A.ListeningAir.grew g.met.A.ListeningAir.grew_more c.pass.new.out c.tell_counts.new.out e (told_for Ru d radio) more
    (c.in_ok-tell_counts.ensures.heard (compensation_of d Ru) (all_doings d Ru) ru)) (IfErr-at_err _ wants (c.tell_counts-2.ensures.stop (compensation_of d Du) (all_doings d Du) du)))

pub returns-clause-same : goal.returns-clause-same
returns-clause-same g c =
    g.met.A.ListeningAir.same_more c.args.out.now c.tell_counts.new.out c.tell_counts-2.new.out
    (g.met.A.ListeningAir.same_more c.args.out.now c.pass.new.out c.tell_counts.new.out c.pass.ensures.same c.tell_counts.ensures.same) c.tell_counts-2.ensures.same

pub returns-in_err-pass-clause-cause : goal.returns-in_err-pass-clause-cause
returns-in_err-pass-clause-cause g c =
    let same : c.pass.result ≡ c.from_residual.result = search rules in
    cause_passed (g.A.ListeningAir.faults c.args.out.now) (g.A.ListeningAir.faults c.args.out.now) (g.A.ListeningAir.faults c.pass.new.out) c.pass.result c.from_residual.result same refl c.pass.ensures.cause

pub returns-in_err-tell_counts-clause-cause : goal.returns-in_err-tell_counts-clause-cause
returns-in_err-tell_counts-clause-cause g c =
    let same : c.tell_counts.result ≡ c.from_residual-in_err-tell_counts.result = search rules in
    cause_passed (g.A.ListeningAir.faults c.args.out.now) (g.A.ListeningAir.faults c.pass.new.out) (g.A.ListeningAir.faults c.tell_counts.new.out) c.tell_counts.result c.from_residual-in_err-tell_counts.result same c.in_ok-pass.ensures.cause c.tell_counts.ensures.cause

pub returns-clause-cause : goal.returns-clause-cause
returns-clause-cause g c = air_cause_since (g.A.ListeningAir.faults c.args.out.now) (g.A.ListeningAir.faults c.tell_counts.new.out) (g.A.ListeningAir.faults c.tell_counts-2.new.out) c.tell_counts-2.result (c.in_ok-tell_counts.ensures.cause ∙ c.in_ok-pass.ensures.cause) c.tell_counts-2.ensures.cause
