use Rattle.std.proofs.Common.{rules, List, [], map, sym, append-nil}
use Rattle.std.proofs.lemmas.Result.{on_ok_weaker}
use Rattle.air_source.specs.declared.events.AirCell.{AirCell}
use Rattle.air_source.specs.declared.events.Event.TheVariants.{Cell}
use Rattle.report_airs.specs.SumAirs.{sink_of, owed_of, sums_of}
use Rattle.report_airs.proofs.Whole.{CountsLast, cells_earlier}
use Rattle.report_airs.proofs.Written.{finished, finish_front, stopped_front}
use Rattle.text_tests.proofs.sums.tell_all.Goals as goal

cells_only : (cells : List AirCell) → CountsLast (map Cell cells)
cells_only cells = record { before = map Cell cells; counts = []; is = sym (append-nil (map Cell cells)); earlier = cells_earlier cells; last = tt }

pub returns-in_err-tell_cells-clause-front : goal.returns-in_err-tell_cells-clause-front
returns-in_err-tell_cells-clause-front g c =
    let w = g.K.Sink.written in
    let a = c.args.air.now in
    let b = c.tell_cells.new.air in
    let front = stopped_front _ (λ a. w (sink_of a)) (λ a. g.K.Sink.faults (sink_of a)) (λ a. g.K.Sink.refusals (sink_of a)) owed_of sums_of (map Cell c.args.cells.now) a b
    (cells_only c.args.cells.now) c.requires.nothing c.requires.start c.in_err-tell_cells.ensures.stop in
    search (rules, front)

pub returns-clause-all : goal.returns-clause-all
returns-clause-all g c =
    let w = g.K.Sink.written in
    let a = c.args.air.now in
    let b = c.tell_cells.new.air in
    on_ok_weaker c.finish.result (λ all. finished (map Cell c.args.cells.now) (sums_of a) (w (sink_of a)) (owed_of a) (sums_of b) (w (sink_of b)) (owed_of b) (w (sink_of c.finish.new.self))
    (cells_only c.args.cells.now) c.requires.nothing c.requires.start c.in_ok-tell_cells.ensures.heard all) c.finish.ensures.all

pub returns-clause-front : goal.returns-clause-front
returns-clause-front g c =
    let w = g.K.Sink.written in
    let a = c.args.air.now in
    let b = c.tell_cells.new.air in
    finish_front (map Cell c.args.cells.now) (sums_of a) (w (sink_of a)) (owed_of a) (sums_of b) (w (sink_of b)) (owed_of b) (w (sink_of c.finish.new.self))
    (cells_only c.args.cells.now) c.requires.nothing c.requires.start c.in_ok-tell_cells.ensures.heard c.finish.ensures.front
