use Rattle.std.proofs.Common.{rules}
use Rattle.std.proofs.lemmas.Result.{on_err_weaker, on_ok_weaker}
use Rattle.explain_air.specs.Airs.{sink_of}
use Rattle.document_texts.proofs.TellLemmas.{begin_part, begun, cut_part, finish_few, finish_part, finish_whole, grown}
use Rattle.fronthaul_replay.proofs.Written.{error_passed}
use Rattle.fronthaul_replay.specs.Replaying.{events_of}
use Rattle.document_texts.proofs.explaining.tell_all.Goals as goal
use Rattle.fh_base.proofs.CommonLemmas.{on_err as at_error}

pub returns-in_err-begin-clause-part : goal.returns-in_err-begin-clause-part
returns-in_err-begin-clause-part g c =
    let w = g.K.Sink.written in
    let a = c.args.air.now in
    let d = c.args.document.now in
    let part = at_error c.from_residual.result _
    (begin_part w d a.faults (w (sink_of a)) (w (sink_of c.begin.new.self)) c.in_err-begin.ensures.part) in
    search (rules, part)

pub returns-in_err-replay_listening_to-clause-part : goal.returns-in_err-replay_listening_to-clause-part
returns-in_err-replay_listening_to-clause-part g c =
    let w = g.K.Sink.written in
    let a = c.args.air.now in
    let b = c.begin.new.self in
    let d = c.args.document.now in
    let at = begun w d a.faults (w (sink_of a)) a.kept b c.requires.fresh c.in_ok-begin.ensures.heard in
    let part = at_error c.from_residual-in_err-replay_listening_to.result _
    (cut_part w d a.faults (w (sink_of a)) c.in_err-replay_listening_to.field-0.0 b c.replay_listening_to.new.air at c.in_err-replay_listening_to.ensures.cut) in
    search (rules, part)

pub returns-clause-part : goal.returns-clause-part
returns-clause-part g c =
    let w = g.K.Sink.written in
    let a = c.args.air.now in
    let b = c.begin.new.self in
    let e = c.replay_listening_to.new.air in
    let d = c.args.document.now in
    let at = begun w d a.faults (w (sink_of a)) a.kept b c.requires.fresh c.in_ok-begin.ensures.heard in
    let told = grown w d a.faults (w (sink_of a)) (events_of d) b e at c.in_ok-replay_listening_to.ensures.heard in
    let part = on_err_weaker c.finish.result
    (λ some. finish_part w d a.faults (w (sink_of a)) e (w (sink_of c.finish.new.self)) told some) c.finish.ensures.part in
    let passed = error_passed c.finish.result c.map_err.result _ c.map_err.ensures.variant part in
    search (rules, passed)

pub returns-clause-done : goal.returns-clause-done
returns-clause-done g c =
    let w = g.K.Sink.written in
    let a = c.args.air.now in
    let b = c.begin.new.self in
    let e = c.replay_listening_to.new.air in
    let d = c.args.document.now in
    let at = begun w d a.faults (w (sink_of a)) a.kept b c.requires.fresh c.in_ok-begin.ensures.heard in
    let told = grown w d a.faults (w (sink_of a)) (events_of d) b e at c.in_ok-replay_listening_to.ensures.heard in
    let done = on_ok_weaker c.finish.result
    (λ all. finish_whole w d a.faults (w (sink_of a)) e (w (sink_of c.finish.new.self)) told all) c.finish.ensures.all in
    search (rules, done)

pub returns-clause-few : goal.returns-clause-few
returns-clause-few g c =
    let w = g.K.Sink.written in
    let a = c.args.air.now in
    let b = c.begin.new.self in
    let e = c.replay_listening_to.new.air in
    let d = c.args.document.now in
    let at = begun w d a.faults (w (sink_of a)) a.kept b c.requires.fresh c.in_ok-begin.ensures.heard in
    let told = grown w d a.faults (w (sink_of a)) (events_of d) b e at c.in_ok-replay_listening_to.ensures.heard in
    let few = on_ok_weaker c.finish.result (λ all. finish_few w d a.faults (w (sink_of a)) e told all) c.finish.ensures.few in
    search (rules, few)
