use Rattle.std.proofs.Common.{rules, ◌≡◌, List, subst}
use Rattle.std.proofs.lemmas.Result.{IfErr-weaker, on_ok_weaker}
use Rattle.explain_air.proofs.KeptLemmas.{after_delay, delay_lines, on_ok_two}
use Rattle.explain_model.specs.declared.values.ExplainLine.{ExplainLine}
use Rattle.explain_model.specs.declared.values.ExplainLine.TheVariants as line
use Rattle.explain_heard.specs.Stops.{StopsSome}
use Rattle.explain_air.proofs.kept.Kept.delay.Goals as goal

pub returns-clause-after : goal.returns-clause-after
returns-clause-after g c =
    let is : c.delay_line.result ≡ line.Delay c.args.at c.args.side c.args.id c.args.value = search (rules, c.delay_line.ensures) in
    on_ok_two c.line.result
    (λ run noted s events h. after_delay s events c.args.self.now h c.args.at c.args.side c.args.id c.args.value c.delay_line.result is c.line.new.self run noted) c.line.ensures.run c.line.ensures.noted

pub returns-clause-heard : goal.returns-clause-heard
returns-clause-heard g c =
    let is : c.delay_line.result ≡ line.Delay c.args.at c.args.side c.args.id c.args.value = search (rules, c.delay_line.ensures) in
    on_ok_weaker c.line.result
    (λ told s events h.
    subst (λ (ls : List ExplainLine). g.W.LineSink.grew c.args.out.now ls c.line.new.out) (delay_lines s events c.args.self.now h c.args.at c.args.side c.args.id c.args.value c.delay_line.result is) told)
    c.line.ensures.heard

pub returns-clause-stop : goal.returns-clause-stop
returns-clause-stop g c =
    let is : c.delay_line.result ≡ line.Delay c.args.at c.args.side c.args.id c.args.value = search (rules, c.delay_line.ensures) in
    IfErr-weaker c.line.result _ _
    (λ f told s events h.
    subst (λ (ls : List ExplainLine). StopsSome g.W.LineSink.grew (g.W.LineSink.stopped f) ls c.args.out.now c.line.new.out)
    (delay_lines s events c.args.self.now h c.args.at c.args.side c.args.id c.args.value c.delay_line.result is) told) c.line.ensures.stop
