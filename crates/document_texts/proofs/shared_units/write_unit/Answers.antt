use Rattle.std.proofs.Common.{rules, ap, ◌∙◌}
use Rattle.std.proofs.lemmas.Result.{on_ok_weaker}
use Rattle.fh_base.proofs.OwedTelling.{anyhow}
use Rattle.fronthaul_replay.specs.Replaying.{events_of}
use Rattle.document_texts.specs.Airs.{mixer_of, owed_of, sink_of}
use Rattle.document_texts.specs.UnitText.{all_taken}
use Rattle.document_texts.proofs.SharedWriting.{begin_cut, replay_cut, unit_done, unit_front}
use Rattle.document_texts.proofs.Causes.{share_air, share_cause_since, share_of_air, share_of_text}
use Rattle.document_texts.proofs.shared_units.write_unit.Goals as goal

pub returns-clause-front : goal.returns-clause-front
returns-clause-front g c =
    let w = g.K.Sink.written in
    let a = c.new-air.result in
    let b = c.begin.new.self in
    let x = c.replay_to.new.air in
    let front = unit_front c.args.unit (events_of c.args.document.now) (w (sink_of a)) (w (sink_of b)) (w (sink_of x)) (w (sink_of c.finish.new.self)) (owed_of a) (owed_of b) (owed_of x) (mixer_of b) (mixer_of x)
    c.new-air.ensures.owed c.in_ok-begin.ensures.carried c.in_ok-replay_to.ensures.heard c.finish.ensures.front in
    search (rules, front)

pub returns-clause-done : goal.returns-clause-done
returns-clause-done g c =
    let w = g.K.Sink.written in
    let a = c.new-air.result in
    let b = c.begin.new.self in
    let x = c.replay_to.new.air in
    let done = on_ok_weaker c.finish.result (λ all.
    unit_done c.args.unit (events_of c.args.document.now) (w (sink_of a)) (w (sink_of b)) (w (sink_of x)) (w (sink_of c.finish.new.self)) (owed_of a) (owed_of b) (owed_of x) (mixer_of b) (mixer_of x)
    c.new-air.ensures.owed c.in_ok-begin.ensures.carried c.in_ok-replay_to.ensures.heard all) c.finish.ensures.all in
    search (rules, done)

pub returns-clause-mixed : goal.returns-clause-mixed
returns-clause-mixed g c =
    let taken = c.finish.ensures.mixer ∙ c.in_ok-replay_to.ensures.heard.taken ∙ ap (all_taken (events_of c.args.document.now)) (c.begin.ensures.mixer ∙ c.new-air.ensures.mixer) in
    let mixed = anyhow c.finish.result taken in
    search (rules, mixed)

pub returns-in_err-begin-clause-front : goal.returns-in_err-begin-clause-front
returns-in_err-begin-clause-front g c =
    let w = g.K.Sink.written in
    let a = c.new-air.result in
    let front = begin_cut c.args.unit (events_of c.args.document.now) (w (sink_of a)) (w (sink_of c.begin.new.self)) (owed_of a) c.new-air.ensures.owed c.in_err-begin.ensures.front in
    search (rules, front)

pub returns-in_err-replay_to-clause-front : goal.returns-in_err-replay_to-clause-front
returns-in_err-replay_to-clause-front g c =
    let w = g.K.Sink.written in
    let a = c.new-air.result in
    let b = c.begin.new.self in
    let x = c.replay_to.new.air in
    let front = replay_cut (λ a. w (sink_of a)) (λ a. g.K.Sink.faults (sink_of a)) owed_of mixer_of c.args.unit (events_of c.args.document.now) c.in_err-replay_to.field-0.0 (w (sink_of a)) (owed_of a) b x
    c.new-air.ensures.owed c.in_ok-begin.ensures.carried c.in_err-replay_to.ensures.cut in
    search (rules, front)

pub returns-in_err-begin-clause-cause : goal.returns-in_err-begin-clause-cause
returns-in_err-begin-clause-cause g c =
    let f = g.K.Sink.faults in
    let r = c.from_residual in
    let cause = share_of_air (f (sink_of c.new-air.result)) (f (sink_of c.begin.new.self)) c.in_err-begin.field-0.0 r.result r.ensures.1 c.in_err-begin.ensures.cause in
    search (rules, cause)

pub returns-in_err-replay_to-clause-cause : goal.returns-in_err-replay_to-clause-cause
returns-in_err-replay_to-clause-cause g c =
    let f = g.K.Sink.faults in
    let b = c.begin.new.self in
    let x = c.replay_to.new.air in
    let r = c.from_residual-in_err-replay_to in
    let cause = share_cause_since (f (sink_of c.new-air.result)) (f (sink_of b)) (f (sink_of x)) r.result c.in_ok-begin.ensures.cause
    (share_of_text (f (sink_of b)) (f (sink_of x)) c.in_err-replay_to.field-0.0 r.result r.ensures.1 c.in_err-replay_to.ensures.cause) in
    search (rules, cause)

pub returns-clause-cause : goal.returns-clause-cause
returns-clause-cause g c =
    let f = g.K.Sink.faults in
    let x = c.replay_to.new.air in
    let cause = share_cause_since (f (sink_of c.new-air.result)) (f (sink_of x)) (f (sink_of c.finish.new.self)) c.map_err.result (c.in_ok-replay_to.ensures.cause ∙ c.in_ok-begin.ensures.cause)
    (share_air (f (sink_of x)) (f (sink_of c.finish.new.self)) c.finish.result c.map_err.result (search rules) c.finish.ensures.cause) in
    search (rules, cause)
