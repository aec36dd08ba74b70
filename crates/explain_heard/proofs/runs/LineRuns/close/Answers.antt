-- The sink stopped in the run's line.
use Rattle.std.proofs.Common.{◌≡◌, [], ◌∷◌, rules, subst, sym}
use Rattle.explain_heard.specs.Runs.{open_line}
use Rattle.explain_heard.specs.Stops.{StopsInLine}
use Rattle.explain_heard.proofs.RunLemmas.{stops_in_one}
use Rattle.explain_heard.proofs.runs.LineRuns.close.Goals as goal

pub returns-in_err-put-in-Some-clause-stop : goal.returns-in_err-put-in-Some-clause-stop
returns-in_err-put-in-Some-clause-stop g c =
    let stopped = g.W.LineSink.stopped c.in_err-put-in-Some.field-0.0 in
    let e : open_line g.T.RunItem.run_line c.args.self.now ≡ c.line-line.result ∷ [] = search rules in
    let stop = subst (λ ls. StopsInLine g.W.LineSink.grew stopped ls c.args.out.now c.put.new.self) (sym e)
    (stops_in_one g.W.LineSink.grew stopped g.met.W.LineSink.grew_none c.line-line.result c.args.out.now c.put.new.self c.in_err-put-in-Some.ensures.stop) in
    search (rules, stop)
