use Rattle.std.proofs.Common.{rules, ℕ, Bool, List, ◌++◌, map, subst}
use Rattle.std.proofs.lemmas.Result.{err_from_is_err_and}
use Rattle.fh_base.specs.Told.{WritesFront}
use Rattle.air_source.specs.Moves.{text_of}
use Rattle.air_source.specs.Tellings.{line_next, line_gives, line_ends, bytes_owed}
use Rattle.air_source.specs.declared.events.Event.TheVariants.{Cell}
use Rattle.air_source.proofs.Texts.{stops_front, finish_front}
use Rattle.text_tests.proofs.line_air.write_lines.Goals as goal
use Rattle.fh_base.proofs.OwedTelling.{anyhow}

pub returns-in_err-tell_cells-clause-front : goal.returns-in_err-tell_cells-clause-front
returns-in_err-tell_cells-clause-front g c =
    let p = err_from_is_err_and c.from_residual.result c.from_residual.ensures.1 in
    let es = map Cell c.args.cells.now in
    let a = c.new-air.result in
    let b = c.tell_cells.new.air in
    let front = stops_front line_next line_gives line_ends (λ a. a.odd) (λ a. bytes_owed a.full a.line) (λ a. g.K.Sink.written a.sink.now) es a b c.in_err-tell_cells.ensures.stop in
    let begun = subst (λ (o : List ℕ). WritesFront (g.K.Sink.written a.sink.now) (g.K.Sink.written b.sink.now) (o ++ text_of line_next line_gives line_ends a.odd es)) c.new-air.ensures.owes front in
    let all = subst (λ (odd : Bool). WritesFront (g.K.Sink.written a.sink.now) (g.K.Sink.written b.sink.now) (text_of line_next line_gives line_ends odd es)) c.new-air.ensures.begins begun in
    rw p.1 (search (rules, all))

pub returns-clause-front : goal.returns-clause-front
returns-clause-front g c =
    let es = map Cell c.args.cells.now in
    let a = c.new-air.result in
    let b = c.tell_cells.new.air in
    let w = g.K.Sink.written in
    let end = c.finish.new.self in
    let front = finish_front line_next line_gives line_ends a.odd (bytes_owed a.full a.line) (w a.sink.now) es b.odd (bytes_owed b.full b.line) (w b.sink.now) (w end.sink.now) c.in_ok-tell_cells.ensures.heard c.finish.ensures.front in
    let begun = subst (λ (o : List ℕ). WritesFront (w a.sink.now) (w end.sink.now) (o ++ text_of line_next line_gives line_ends a.odd es)) c.new-air.ensures.owes front in
    let all = subst (λ (odd : Bool). WritesFront (w a.sink.now) (w end.sink.now) (text_of line_next line_gives line_ends odd es)) c.new-air.ensures.begins begun in
    anyhow c.finish.result (search (rules, all))
