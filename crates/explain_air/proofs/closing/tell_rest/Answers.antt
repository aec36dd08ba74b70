use Rattle.std.proofs.Common.{rules, ◌≡◌, List, subst, sym}
use Rattle.std.proofs.lemmas.Result.{IfErr-weaker, on_ok_weaker}
use Rattle.explain_air.proofs.ClosingLemmas.{rest_is}
use Rattle.explain_air.proofs.Stopping.{if_err_all, some_first, some_nothing, some_second}
use Rattle.explain_air.specs.Closing.{rest_of}
use Rattle.explain_air.specs.NoteLaws.{noted_more}
use Rattle.explain_air.specs.Notes.{HasNoted}
use Rattle.explain_model.specs.declared.values.ExplainLine.{ExplainLine}
use Rattle.explain_heard.specs.Stops.{StopsSome}
use Rattle.why_lines.specs.Silent.{silent_text}
use Rattle.why_lines.specs.Unused.{unused_text}
use Rattle.explain_air.proofs.closing.tell_rest.Goals as goal

pub returns-in_err-sorted-clause-stop : goal.returns-in_err-sorted-clause-stop
returns-in_err-sorted-clause-stop g c =
    if_err_all c.from_residual.result (λ f s events of. some_nothing g.W.LineSink.grew (g.W.LineSink.stopped f) g.met.W.LineSink.grew_none (rest_of s events) c.args.out.now)

pub returns-in_err-note_silent-clause-stop : goal.returns-in_err-note_silent-clause-stop
returns-in_err-note_silent-clause-stop g c =
    let x = c.args.grounds.now in
    let same : c.note_silent.result ≡ c.from_residual-in_err-note_silent.result = search rules in
    rw (sym same)
    (IfErr-weaker c.note_silent.result _ _
    (λ f stop s events of.
    subst (λ (ls : List ExplainLine). StopsSome g.W.LineSink.grew (g.W.LineSink.stopped f) ls c.args.out.now c.note_silent.new.out)
    (rest_is s events x.endpoints.now x.ordered.now c.args.cells c.in_ok-sorted.sorted x.plan.now of c.in_ok-sorted.ensures)
    (some_first g.W.LineSink.grew (g.W.LineSink.stopped f) (silent_text x.ordered.now c.in_ok-sorted.sorted x.plan.now.numbers x.plan.now.planned)
    (unused_text x.endpoints.now x.ordered.now c.in_ok-sorted.sorted) c.args.out.now c.note_silent.new.out stop)) c.note_silent.ensures.stop)

pub returns-clause-noted : goal.returns-clause-noted
returns-clause-noted g c =
    on_ok_weaker c.note_unused.result (λ second s events of.
    subst (λ (ls : List ExplainLine). HasNoted c.args.notes.now ls c.note_unused.new.notes) (rest_is s events c.args.grounds.now.endpoints.now c.args.grounds.now.ordered.now c.args.cells c.in_ok-sorted.sorted c.args.grounds.now.plan.now of c.in_ok-sorted.ensures)
    (noted_more c.args.notes.now c.note_silent.new.notes c.note_unused.new.notes _ _ c.in_ok-note_silent.ensures.noted second)) c.note_unused.ensures.noted

pub returns-clause-heard : goal.returns-clause-heard
returns-clause-heard g c =
    on_ok_weaker c.note_unused.result (λ second s events of.
    subst (λ (ls : List ExplainLine). g.W.LineSink.grew c.args.out.now ls c.note_unused.new.out) (rest_is s events c.args.grounds.now.endpoints.now c.args.grounds.now.ordered.now c.args.cells c.in_ok-sorted.sorted c.args.grounds.now.plan.now of c.in_ok-sorted.ensures)
    (g.met.W.LineSink.grew_more c.args.out.now c.note_silent.new.out c.note_unused.new.out _ _ c.in_ok-note_silent.ensures.heard second)) c.note_unused.ensures.heard

pub returns-clause-stop : goal.returns-clause-stop
returns-clause-stop g c =
    IfErr-weaker c.note_unused.result _ _ (λ f second s events of.
    subst (λ (ls : List ExplainLine). StopsSome g.W.LineSink.grew (g.W.LineSink.stopped f) ls c.args.out.now c.note_unused.new.out) (rest_is s events c.args.grounds.now.endpoints.now c.args.grounds.now.ordered.now c.args.cells c.in_ok-sorted.sorted c.args.grounds.now.plan.now of c.in_ok-sorted.ensures)
    (some_second g.W.LineSink.grew (g.W.LineSink.stopped f) g.met.W.LineSink.grew_more _ _ c.args.out.now c.note_silent.new.out c.note_unused.new.out c.in_ok-note_silent.ensures.heard second)) c.note_unused.ensures.stop
