use Rattle.std.proofs.Common.{rules, ◌≡◌, List, subst, sym}
use Rattle.std.proofs.lemmas.Result.{IfErr-weaker, on_ok_weaker}
use Rattle.explain_air.proofs.KeptLemmas.{ending_lines, last_of}
use Rattle.explain_air.proofs.Stopping.{some_first, some_second}
use Rattle.explain_air.specs.Runs.{open_of}
use Rattle.explain_model.specs.Subjects.{reason_lines}
use Rattle.explain_model.specs.declared.values.ExplainLine.{ExplainLine}
use Rattle.explain_model.specs.Cells.{run_lines}
use Rattle.explain_heard.specs.Stops.{StopsSome}
use Rattle.explain_air.proofs.kept.Kept.close.Goals as goal

pub returns-in_err-end-clause-stop : goal.returns-in_err-end-clause-stop
returns-in_err-end-clause-stop g c =
    let same : c.end.result ≡ c.from_residual.result = search rules in
    rw (sym same)
    (IfErr-weaker c.end.result _ _
    (λ f stop s events h.
    subst (λ (ls : List ExplainLine). StopsSome g.W.LineSink.grew (g.W.LineSink.stopped f) ls c.args.out.now c.end.new.out) (ending_lines s events c.args.self h)
    (some_first g.W.LineSink.grew (g.W.LineSink.stopped f) (run_lines (open_of c.args.self.runs)) (reason_lines s events) c.args.out.now c.end.new.out stop)) c.end.ensures.stop)

pub returns-clause-heard : goal.returns-clause-heard
returns-clause-heard g c =
    on_ok_weaker c.tell_last.result (λ told s events h.
    subst (λ (ls : List ExplainLine). g.W.LineSink.grew c.args.out.now ls c.tell_last.new.out) (ending_lines s events c.args.self h)
    (g.met.W.LineSink.grew_more c.args.out.now c.end.new.out c.tell_last.new.out (run_lines (open_of c.args.self.runs)) (reason_lines s events) c.in_ok-end.ensures.heard
    (told s events (last_of s events c.args.self c.end.new.self.notes h c.in_ok-end.ensures.noted)))) c.tell_last.ensures.heard

pub returns-clause-stop : goal.returns-clause-stop
returns-clause-stop g c =
    IfErr-weaker c.tell_last.result _ _ (λ f told s events h.
    subst (λ (ls : List ExplainLine). StopsSome g.W.LineSink.grew (g.W.LineSink.stopped f) ls c.args.out.now c.tell_last.new.out) (ending_lines s events c.args.self h)
    (some_second g.W.LineSink.grew (g.W.LineSink.stopped f) g.met.W.LineSink.grew_more (run_lines (open_of c.args.self.runs)) (reason_lines s events) c.args.out.now c.end.new.out c.tell_last.new.out c.in_ok-end.ensures.heard
    (told s events (last_of s events c.args.self c.end.new.self.notes h c.in_ok-end.ensures.noted)))) c.tell_last.ensures.stop

pub returns-clause-same : goal.returns-clause-same
returns-clause-same g c = g.met.W.LineSink.same_more c.args.out.now c.end.new.out c.tell_last.new.out c.end.ensures.same c.tell_last.ensures.same
