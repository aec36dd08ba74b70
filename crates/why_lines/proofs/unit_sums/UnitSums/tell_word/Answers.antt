-- The sink stopped in the word's line.
use Rattle.std.proofs.Common.{◌≡◌, [], ◌∷◌, subst}
use Rattle.std.proofs.lemmas.Result.{IfErr-weaker}
use Rattle.explain_heard.specs.Stops.{StopsInLine}
use Rattle.explain_heard.proofs.RunLemmas.{stops_in_one}
use Rattle.why_lines.specs.Counting.{word_lines}
use Rattle.why_lines.proofs.unit_sums.UnitSums.tell_word.Goals as goal

pub returns-in-Some-clause-stop : goal.returns-in-Some-clause-stop
returns-in-Some-clause-stop g c =
    let e : c.in-Some.line ∷ [] ≡ word_lines c.args.self.now c.args.word = c.in-Some.ensures in
    IfErr-weaker c.put.result _ _ (λ f stop.
    subst (λ ls. StopsInLine g.W.LineSink.grew (g.W.LineSink.stopped f) ls c.args.out.now c.put.new.self) e
    (stops_in_one g.W.LineSink.grew (g.W.LineSink.stopped f) g.met.W.LineSink.grew_none c.in-Some.line c.args.out.now c.put.new.self stop)) c.put.ensures.stop
