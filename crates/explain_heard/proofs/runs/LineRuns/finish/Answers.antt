-- By the lines of all runs.
use Rattle.std.proofs.lemmas.Result.{IfErr-weaker, on_ok_weaker}
use Rattle.explain_heard.proofs.RunLemmas.{ends, stops_last}
use Rattle.explain_heard.proofs.runs.LineRuns.finish.Goals as goal

pub returns-clause-ok : goal.returns-clause-ok
returns-clause-ok g c =
    on_ok_weaker c.close.result (λ told base items h. ends g.T.RunItem.related g.T.RunItem.run_line g.W.LineSink.grew g.met.W.LineSink.grew_more base items c.args.self.now c.args.out.now c.close.new.out told h)
    c.close.ensures.heard

pub returns-clause-stop : goal.returns-clause-stop
returns-clause-stop g c =
    IfErr-weaker c.close.result _ _ (λ f stops base items h. stops_last g.T.RunItem.related g.T.RunItem.run_line g.W.LineSink.grew g.met.W.LineSink.grew_more (g.W.LineSink.stopped f) base items c.args.self.now
    c.args.out.now c.close.new.out stops h) c.close.ensures.stop
