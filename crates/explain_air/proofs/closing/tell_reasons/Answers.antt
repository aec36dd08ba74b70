use Rattle.std.proofs.Common.{rules, ◌≡◌, List, subst, sym}
use Rattle.std.proofs.lemmas.Result.{IfErr-weaker, on_ok_weaker}
use Rattle.explain_air.proofs.ClosingLemmas.{whys_are}
use Rattle.explain_air.proofs.Stopping.{some_first, some_second}
use Rattle.explain_air.specs.Closing.{rest_of}
use Rattle.explain_air.specs.NoteLaws.{noted_more}
use Rattle.explain_air.specs.Notes.{HasNoted}
use Rattle.explain_model.specs.declared.values.ExplainLine.{ExplainLine}
use Rattle.explain_heard.specs.Stops.{StopsSome}
use Rattle.explain_records.specs.Missing.{missing_text}
use Rattle.explain_air.proofs.closing.tell_reasons.Goals as goal

pub returns-clause-noted : goal.returns-clause-noted
returns-clause-noted g c =
    on_ok_weaker c.tell_rest.result (λ second s events of.
    subst (λ (ls : List ExplainLine). HasNoted c.args.notes.now ls c.tell_rest.new.notes) (whys_are s events c.args.grounds.now.endpoints.now c.args.grounds.now.ordered.now c.args.cells c.args.grounds.now.plan.now of)
    (noted_more c.args.notes.now c.note_missing.new.notes c.tell_rest.new.notes _ _ c.in_ok-note_missing.ensures.noted (second s events of))) c.tell_rest.ensures.noted

pub returns-clause-heard : goal.returns-clause-heard
returns-clause-heard g c =
    on_ok_weaker c.tell_rest.result (λ second s events of.
    subst (λ (ls : List ExplainLine). g.W.LineSink.grew c.args.out.now ls c.tell_rest.new.out) (whys_are s events c.args.grounds.now.endpoints.now c.args.grounds.now.ordered.now c.args.cells c.args.grounds.now.plan.now of)
    (g.met.W.LineSink.grew_more c.args.out.now c.note_missing.new.out c.tell_rest.new.out _ _ c.in_ok-note_missing.ensures.heard (second s events of))) c.tell_rest.ensures.heard

pub returns-clause-stop : goal.returns-clause-stop
returns-clause-stop g c =
    IfErr-weaker c.tell_rest.result _ _ (λ f second s events of.
    subst (λ (ls : List ExplainLine). StopsSome g.W.LineSink.grew (g.W.LineSink.stopped f) ls c.args.out.now c.tell_rest.new.out) (whys_are s events c.args.grounds.now.endpoints.now c.args.grounds.now.ordered.now c.args.cells c.args.grounds.now.plan.now of)
    (some_second g.W.LineSink.grew (g.W.LineSink.stopped f) g.met.W.LineSink.grew_more _ _ c.args.out.now c.note_missing.new.out c.tell_rest.new.out c.in_ok-note_missing.ensures.heard (second s events of))) c.tell_rest.ensures.stop

pub returns-in_err-note_missing-clause-stop : goal.returns-in_err-note_missing-clause-stop
returns-in_err-note_missing-clause-stop g c =
    let x = c.args.grounds.now in
    let same : c.note_missing.result ≡ c.from_residual.result = search rules in
    rw (sym same)
    (IfErr-weaker c.note_missing.result _ _
    (λ f stop s events of.
    subst (λ (ls : List ExplainLine). StopsSome g.W.LineSink.grew (g.W.LineSink.stopped f) ls c.args.out.now c.note_missing.new.out)
    (whys_are s events x.endpoints.now x.ordered.now c.args.cells x.plan.now of)
    (some_first g.W.LineSink.grew (g.W.LineSink.stopped f) (missing_text x.ordered.now c.args.cells) (rest_of s events) c.args.out.now c.note_missing.new.out stop)) c.note_missing.ensures.stop)
