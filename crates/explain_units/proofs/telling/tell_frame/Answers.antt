-- A line, and then those of what was judged.
use Rattle.std.proofs.Common.{rules, [], ◌∷◌, subst}
use Rattle.std.proofs.lemmas.Result.{IfErr-weaker, on_ok_weaker}
use Rattle.explain_heard.specs.Stops.{StopsSome}
use Rattle.explain_model.specs.declared.values.ExplainLine.{ExplainLine}
use Rattle.explain_units.specs.Frames.{line_of}
use Rattle.explain_units.specs.Known.{all_said}
use Rattle.explain_units.specs.Knowing.{known_of}
use Rattle.explain_units.proofs.StopLemmas.{in_first, some_after}
use Rattle.explain_units.proofs.telling.tell_frame.Goals as goal

pub returns-in_err-put-clause-stop : goal.returns-in_err-put-clause-stop
returns-in_err-put-clause-stop g c =
    let rest = all_said c.args.frame.now.number c.args.judged.now (known_of c.args.earlier.now) in
    let stop = subst (λ (l : ExplainLine). StopsSome g.W.LineSink.grew (g.W.LineSink.stopped c.in_err-put.field-0.0) (l ∷ rest) c.args.out.now c.put.new.self) c.line.ensures
    (in_first g.W.LineSink.grew (g.W.LineSink.stopped c.in_err-put.field-0.0) g.met.W.LineSink.grew_none c.line.result rest c.args.out.now c.put.new.self c.in_err-put.ensures.stop) in
    search (rules, stop)

pub returns-clause-told : goal.returns-clause-told
returns-clause-told g c =
    on_ok_weaker c.tell_judged.result
    (λ told.
    g.met.W.LineSink.grew_more c.args.out.now c.put.new.self c.tell_judged.new.out (line_of c.args.frame.now ∷ []) (all_said c.args.frame.now.number c.args.judged.now (known_of c.args.earlier.now))
    (subst (λ (l : ExplainLine). g.W.LineSink.grew c.args.out.now (l ∷ []) c.put.new.self) c.line.ensures c.in_ok-put.ensures.heard) told)
    c.tell_judged.ensures.told

pub returns-clause-stop : goal.returns-clause-stop
returns-clause-stop g c =
    IfErr-weaker c.tell_judged.result _ _
    (λ f stop.
    some_after g.W.LineSink.grew (g.W.LineSink.stopped f) g.met.W.LineSink.grew_more (line_of c.args.frame.now ∷ [])
    (all_said c.args.frame.now.number c.args.judged.now (known_of c.args.earlier.now)) c.args.out.now c.put.new.self c.tell_judged.new.out
    (subst (λ (l : ExplainLine). g.W.LineSink.grew c.args.out.now (l ∷ []) c.put.new.self) c.line.ensures c.in_ok-put.ensures.heard) stop)
    c.tell_judged.ensures.stop
