use Rattle.std.proofs.Common.{rules, ◌∷◌, []}
use Rattle.std.proofs.lemmas.Result.{IfErr-weaker}
use Rattle.explain_air.proofs.Stopping.{some_first, some_second, some_one}
use Rattle.explain_air.specs.Runs.{open_of}
use Rattle.explain_model.specs.Cells.{run_lines}
use Rattle.explain_air.proofs.runs.RunLines.line.Goals as goal

pub returns-in_err-end-clause-stop : goal.returns-in_err-end-clause-stop
returns-in_err-end-clause-stop g c =
    let stop = some_first g.W.LineSink.grew (g.W.LineSink.stopped c.in_err-end.field-0.0) (run_lines (open_of c.args.self.now)) (c.args.line.now ∷ []) c.args.out.now c.end.new.out c.in_err-end.ensures.stop in
    search (rules, stop)

pub returns-clause-stop : goal.returns-clause-stop
returns-clause-stop g c =
    IfErr-weaker c.note_and_put.result _ _ (λ f stop. some_second g.W.LineSink.grew (g.W.LineSink.stopped f) g.met.W.LineSink.grew_more (run_lines (open_of c.args.self.now)) (c.args.line.now ∷ []) c.args.out.now c.end.new.out c.note_and_put.new.out
    c.in_ok-end.ensures.heard (some_one g.W.LineSink.grew (g.W.LineSink.stopped f) g.met.W.LineSink.grew_none c.end.new.out c.note_and_put.new.out c.args.line.now stop)) c.note_and_put.ensures.stop
