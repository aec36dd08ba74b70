use Rattle.std.proofs.Common.{rules, ◌≡◌, List, subst, sym}
use Rattle.std.proofs.lemmas.Result.{IfErr-weaker, on_ok_weaker}
use Rattle.explain_air.proofs.KeptLemmas.{arrival_lines, ended_of}
use Rattle.explain_air.proofs.Stopping.{some_first, some_second}
use Rattle.explain_air.specs.Heard.{lines_at}
use Rattle.explain_air.specs.Runs.{open_of}
use Rattle.explain_model.specs.declared.values.ExplainLine.{ExplainLine}
use Rattle.explain_model.specs.Cells.{run_lines}
use Rattle.explain_heard.specs.Stops.{StopsSome}
use Rattle.explain_air.proofs.kept.Kept.tell_frame.Goals as goal

pub returns-clause-after : goal.returns-clause-after
returns-clause-after g c =
    on_ok_weaker c.tell_judged.result
    (λ told s events bytes h last. told s events bytes (ended_of s events c.args.self.now c.end.new.self h c.in_ok-end.ensures.run c.in_ok-end.ensures.noted) last) c.tell_judged.ensures.after

pub returns-clause-heard : goal.returns-clause-heard
returns-clause-heard g c =
    on_ok_weaker c.tell_judged.result (λ told s events bytes h last.
    subst (λ (ls : List ExplainLine). g.W.LineSink.grew c.args.out.now ls c.tell_judged.new.out) (arrival_lines s events c.args.self.now c.args.frame.now.side c.args.frame.now.at bytes h)
    (g.met.W.LineSink.grew_more c.args.out.now c.end.new.out c.tell_judged.new.out (run_lines (open_of c.args.self.now.runs)) (lines_at s events c.args.frame.now.side c.args.frame.now.at bytes)
    c.in_ok-end.ensures.heard (told s events bytes (ended_of s events c.args.self.now c.end.new.self h c.in_ok-end.ensures.run c.in_ok-end.ensures.noted) last))) c.tell_judged.ensures.heard

pub returns-clause-stop : goal.returns-clause-stop
returns-clause-stop g c =
    IfErr-weaker c.tell_judged.result _ _ (λ f told s events bytes h last.
    subst (λ (ls : List ExplainLine). StopsSome g.W.LineSink.grew (g.W.LineSink.stopped f) ls c.args.out.now c.tell_judged.new.out)
    (arrival_lines s events c.args.self.now c.args.frame.now.side c.args.frame.now.at bytes h)
    (some_second g.W.LineSink.grew (g.W.LineSink.stopped f) g.met.W.LineSink.grew_more (run_lines (open_of c.args.self.now.runs)) (lines_at s events c.args.frame.now.side c.args.frame.now.at bytes)
    c.args.out.now c.end.new.out c.tell_judged.new.out c.in_ok-end.ensures.heard
    (told s events bytes (ended_of s events c.args.self.now c.end.new.self h c.in_ok-end.ensures.run c.in_ok-end.ensures.noted) last))) c.tell_judged.ensures.stop

pub returns-in_err-end-clause-stop : goal.returns-in_err-end-clause-stop
returns-in_err-end-clause-stop g c =
    let same : c.end.result ≡ c.from_residual.result = search rules in
    rw (sym same)
    (IfErr-weaker c.end.result _ _
    (λ f stop s events bytes h last.
    subst (λ (ls : List ExplainLine). StopsSome g.W.LineSink.grew (g.W.LineSink.stopped f) ls c.args.out.now c.end.new.out)
    (arrival_lines s events c.args.self.now c.args.frame.now.side c.args.frame.now.at bytes h)
    (some_first g.W.LineSink.grew (g.W.LineSink.stopped f) (run_lines (open_of c.args.self.now.runs)) (lines_at s events c.args.frame.now.side c.args.frame.now.at bytes)
    c.args.out.now c.end.new.out stop)) c.end.ensures.stop)
