-- The line of a margin that is of a section.
use Rattle.std.proofs.Common.{IfErr, subst}
use Rattle.std.proofs.lemmas.Result.{IfErr-weaker}
use Rattle.explain_units.proofs.MarginLemmas.{margin_is}
use Rattle.explain_units.proofs.StopLemmas.{in_one}
use Rattle.explain_heard.specs.Stops.{StopsInLine}
use Rattle.explain_units.proofs.margins.tell_margin.Goals as goal

pub returns-then-is_of_some-clause-stop : goal.returns-then-is_of_some-clause-stop
returns-then-is_of_some-clause-stop g c =
    subst (λ ls. IfErr c.put.result (λ f. StopsInLine g.W.LineSink.grew (g.W.LineSink.stopped f) ls c.args.out.now c.put.new.self))
    (margin_is c.args.side c.args.class c.args.margins.now c.margin_at-margin.result c.is_of_some.result c.margin_at-margin.ensures c.is_of_some.ensures c.if-is_of_some.true)
    (IfErr-weaker c.put.result _ _ (λ f h. in_one g.W.LineSink.grew (g.W.LineSink.stopped f) g.met.W.LineSink.grew_none _ c.args.out.now c.put.new.self h) c.put.ensures.stop)
