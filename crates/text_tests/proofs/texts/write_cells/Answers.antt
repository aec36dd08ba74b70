use Rattle.std.proofs.Common.{rules, map}
use Rattle.std.proofs.lemmas.Result.{on_ok_weaker}
use Rattle.air_source.specs.declared.events.Event.TheVariants.{Cell}
use Rattle.report_airs.specs.TextAirs.{sink_of, owed_of}
use Rattle.report_airs.specs.Text.{event_text}
use Rattle.report_airs.proofs.Texts.{stops_front, front_of_whole, finish_front, finished}
use Rattle.text_tests.proofs.texts.write_cells.Goals as goal

pub returns-in_err-tell_cells-clause-front : goal.returns-in_err-tell_cells-clause-front
returns-in_err-tell_cells-clause-front g c =
    let w = g.K.Sink.written in
    let es = map Cell c.args.cells.now in
    let a = c.new-air.result in
    let b = c.tell_cells.new.air in
    let front = front_of_whole event_text (w (sink_of a)) (w (sink_of b)) es (stops_front event_text _ (λ a. w (sink_of a)) (λ a. g.K.Sink.faults (sink_of a)) (λ a. g.K.Sink.refusals (sink_of a)) owed_of es a b c.new-air.ensures.owed c.in_err-tell_cells.ensures.stop) in
    search (rules, front)

pub returns-clause-all : goal.returns-clause-all
returns-clause-all g c =
    let w = g.K.Sink.written in
    let es = map Cell c.args.cells.now in
    let a = c.new-air.result in
    let b = c.tell_cells.new.air in
    let all = on_ok_weaker c.finish.result (λ all. finished event_text (w (sink_of a)) (owed_of a) es (w (sink_of b)) (owed_of b) (w (sink_of c.finish.new.self)) c.new-air.ensures.owed c.in_ok-tell_cells.ensures.heard all) c.finish.ensures.all in
    search (rules, all)

pub returns-clause-front : goal.returns-clause-front
returns-clause-front g c =
    let w = g.K.Sink.written in
    let es = map Cell c.args.cells.now in
    let a = c.new-air.result in
    let b = c.tell_cells.new.air in
    let front = finish_front event_text (w (sink_of a)) (owed_of a) es (w (sink_of b)) (owed_of b) (w (sink_of c.finish.new.self)) c.new-air.ensures.owed c.in_ok-tell_cells.ensures.heard c.finish.ensures.front in
    search (rules, front)
