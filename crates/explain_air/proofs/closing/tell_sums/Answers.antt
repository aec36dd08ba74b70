use Rattle.std.proofs.Common.{rules, ◌≡◌, sym}
use Rattle.std.proofs.lemmas.Result.{IfErr-weaker}
use Rattle.explain_air.proofs.Stopping.{some_first, some_line, some_second}
use Rattle.explain_air.proofs.closing.tell_sums.Goals as goal

pub returns-in_err-tell-clause-stop : goal.returns-in_err-tell-clause-stop
returns-in_err-tell-clause-stop g c =
    let same : c.tell.result ≡ c.from_residual.result = search rules in
    rw (sym same)
    (IfErr-weaker c.tell.result _ _
    (λ f stop es ls are.
    some_first g.W.LineSink.grew (g.W.LineSink.stopped f) _ _ c.args.out.now c.tell.new.out (some_line g.W.LineSink.grew (g.W.LineSink.stopped f) _ _ _ (stop es ls are)))
    c.tell.ensures.stop)

pub returns-clause-stop : goal.returns-clause-stop
returns-clause-stop g c =
    IfErr-weaker c.tell-2.result _ _ (λ f second es ls are.
    some_second g.W.LineSink.grew (g.W.LineSink.stopped f) g.met.W.LineSink.grew_more _ _ c.args.out.now c.tell.new.out c.tell-2.new.out (c.in_ok-tell.ensures.heard es ls are)
    (some_line g.W.LineSink.grew (g.W.LineSink.stopped f) _ _ _ (second es ls are))) c.tell-2.ensures.stop
