use Rattle.std.proofs.Common.{rules, [], ◌∷◌, refl}
use Rattle.std.proofs.lemmas.Result.{on_ok_weaker}
use Rattle.air_source.specs.declared.events.Event.TheVariants.{Arrival}
use Rattle.report_airs.specs.CaptureAirs.{sink_of, owed_of}
use Rattle.report_airs.specs.CaptureLaws.{grew_none}
use Rattle.report_airs.proofs.Captured.{finished, finish_front, stopped_front}
use Rattle.text_tests.proofs.captures.write_arrival.Goals as goal

pub returns-in_err-arrival-clause-front : goal.returns-in_err-arrival-clause-front
returns-in_err-arrival-clause-front g c =
    let w = g.K.Sink.written in
    let es = Arrival c.args.side c.args.at c.args.frame.now ∷ [] in
    let a = c.new-air.result in
    let b = c.arrival.new.self in
    let front = stopped_front _ (λ a. w (sink_of a)) (λ a. g.K.Sink.faults (sink_of a)) (λ a. g.K.Sink.refusals (sink_of a)) owed_of es a b c.new-air.ensures.owed
    (record { before = []; event = Arrival c.args.side c.args.at c.args.frame.now; after = []; is = refl; middle = a; heard = grew_none _ _; stop = c.in_err-arrival.ensures.stop }) in
    search (rules, front)

pub returns-clause-all : goal.returns-clause-all
returns-clause-all g c =
    let w = g.K.Sink.written in
    let es = Arrival c.args.side c.args.at c.args.frame.now ∷ [] in
    let a = c.new-air.result in
    let b = c.arrival.new.self in
    let all = on_ok_weaker c.finish.result (λ all. finished es (w (sink_of a)) (owed_of a) (w (sink_of b)) (owed_of b) (w (sink_of c.finish.new.self)) c.new-air.ensures.owed c.in_ok-arrival.ensures.heard all) c.finish.ensures.all in
    search (rules, all)

pub returns-clause-front : goal.returns-clause-front
returns-clause-front g c =
    let w = g.K.Sink.written in
    let es = Arrival c.args.side c.args.at c.args.frame.now ∷ [] in
    let a = c.new-air.result in
    let b = c.arrival.new.self in
    let front = finish_front es (w (sink_of a)) (owed_of a) (w (sink_of b)) (owed_of b) (w (sink_of c.finish.new.self)) c.new-air.ensures.owed c.in_ok-arrival.ensures.heard c.finish.ensures.front in
    search (rules, front)
