use Rattle.std.proofs.Common.{rules, ◌≡◌}
use Rattle.std.proofs.lemmas.Result.{on_err_weaker, on_ok_weaker}
use Rattle.report_airs.specs.CaptureAirs.{sink_of, owed_of}
use Rattle.fronthaul_replay.proofs.Cuts.{capture_cut, capture_cut_part, capture_done, capture_front, capture_part}
use Rattle.fronthaul_replay.proofs.FaultLemmas.{last_cause, same_cause}
use Rattle.fronthaul_replay.proofs.Written.{error_passed}
use Rattle.fronthaul_replay.proofs.capture.capture_document.Goals as goal
use Rattle.fh_base.proofs.CommonLemmas.{on_err as at_error}

pub returns-clause-front : goal.returns-clause-front
returns-clause-front g c =
    let w = g.K.Sink.written in
    let a = c.new-air.result in
    let b = c.replay_to.new.air in
    let front = capture_front c.args.document.now (w (sink_of a)) (owed_of a) (w (sink_of b)) (owed_of b) (w (sink_of c.finish.new.self)) c.new-air.ensures.owed c.in_ok-replay_to.ensures.heard c.finish.ensures.front in
    search (rules, front)

pub returns-clause-done : goal.returns-clause-done
returns-clause-done g c =
    let w = g.K.Sink.written in
    let a = c.new-air.result in
    let b = c.replay_to.new.air in
    let done = on_ok_weaker c.finish.result (λ all. capture_done c.args.document.now (w (sink_of a)) (owed_of a) (w (sink_of b)) (owed_of b) (w (sink_of c.finish.new.self)) c.new-air.ensures.owed c.in_ok-replay_to.ensures.heard all) c.finish.ensures.all in
    search (rules, done)

pub returns-in_err-replay_to-clause-front : goal.returns-in_err-replay_to-clause-front
returns-in_err-replay_to-clause-front g c =
    let w = g.K.Sink.written in
    let a = c.new-air.result in
    let b = c.replay_to.new.air in
    let front = capture_cut (λ a. w (sink_of a)) (λ a. g.K.Sink.faults (sink_of a)) (λ a. g.K.Sink.refusals (sink_of a)) owed_of c.args.document.now a b c.in_err-replay_to.field-0.0 c.new-air.ensures.owed c.in_err-replay_to.ensures.cut in
    search (rules, front)

pub returns-in_err-replay_to-clause-cause : goal.returns-in_err-replay_to-clause-cause
returns-in_err-replay_to-clause-cause g c =
    let f = g.K.Sink.faults in
    let same : c.replay_to.result ≡ c.from_residual.result = search rules in
    let cause = same_cause (f (sink_of c.new-air.result)) (f (sink_of c.replay_to.new.air)) c.replay_to.result c.from_residual.result same c.replay_to.ensures.cause in
    search (rules, cause)

pub returns-clause-cause : goal.returns-clause-cause
returns-clause-cause g c =
    let f = g.K.Sink.faults in
    let cause = last_cause (f (sink_of c.new-air.result)) (f (sink_of c.replay_to.new.air)) (f (sink_of c.finish.new.self)) c.finish.result c.map_err.result (search rules)
    c.in_ok-replay_to.ensures.cause c.finish.ensures.cause in
    search (rules, cause)

pub returns-in_err-replay_to-clause-part : goal.returns-in_err-replay_to-clause-part
returns-in_err-replay_to-clause-part g c =
    let w = g.K.Sink.written in
    let a = c.new-air.result in
    let b = c.replay_to.new.air in
    let part = at_error c.from_residual.result _ (capture_cut_part (λ a. w (sink_of a)) (λ a. g.K.Sink.faults (sink_of a)) (λ a. g.K.Sink.refusals (sink_of a)) owed_of c.args.document.now a b c.in_err-replay_to.field-0.0 c.new-air.ensures.owed c.in_err-replay_to.ensures.cut) in
    search (rules, part)

pub returns-clause-part : goal.returns-clause-part
returns-clause-part g c =
    let w = g.K.Sink.written in
    let a = c.new-air.result in
    let b = c.replay_to.new.air in
    let part = on_err_weaker c.finish.result (λ some. capture_part c.args.document.now (w (sink_of a)) (owed_of a) (w (sink_of b)) (owed_of b) (w (sink_of c.finish.new.self)) c.new-air.ensures.owed c.in_ok-replay_to.ensures.heard some) c.finish.ensures.part in
    let passed = error_passed c.finish.result c.map_err.result _ c.map_err.ensures.variant part in
    search (rules, passed)
