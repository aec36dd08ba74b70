-- Where no run shows it.
use Rattle.std.proofs.Common.{Bool, List, [], if◌then◌else◌, OnOk, IfErr, subst, sym, ◌∙◌}
use Rattle.explain_heard.specs.Runs.{HasPut, StopsPutting}
use Rattle.explain_heard.proofs.RunLemmas.{put_none}
use Rattle.why_lines.specs.Unused.{unused_line_of, unused_prbs_with, unused_related}
use Rattle.why_lines.specs.declared.blocks.UnusedPrb.{UnusedPrb}
use Rattle.why_lines.proofs.blocks.put_block.Goals as goal

pub returns-then-is_shown-clause-ok : goal.returns-then-is_shown-clause-ok
returns-then-is_shown-clause-ok g c =
    subst (λ (b : Bool). let ys : List UnusedPrb = if b then [] else unused_prbs_with c.args.given.now c.args.of.now c.args.prb in
    HasPut unused_related unused_line_of g.W.LineSink.grew ys c.args.lines.now c.args.out.now c.args.lines.now c.args.out.now) (sym (sym c.is_shown.ensures ∙ c.if-is_shown.true))
    (put_none unused_related unused_line_of g.W.LineSink.grew c.args.lines.now c.args.out.now)

pub returns-else-is_shown-clause-ok : goal.returns-else-is_shown-clause-ok
returns-else-is_shown-clause-ok g c =
    subst (λ (b : Bool). let ys : List UnusedPrb = if b then [] else unused_prbs_with c.args.given.now c.args.of.now c.args.prb in
    OnOk c.put_given.result (HasPut unused_related unused_line_of g.W.LineSink.grew ys c.args.lines.now c.args.out.now c.put_given.new.lines c.put_given.new.out))
    (sym (sym c.is_shown.ensures ∙ c.if-is_shown.false)) c.put_given.ensures.ok

pub returns-else-is_shown-clause-stop : goal.returns-else-is_shown-clause-stop
returns-else-is_shown-clause-stop g c =
    subst (λ (b : Bool). let ys : List UnusedPrb = if b then [] else unused_prbs_with c.args.given.now c.args.of.now c.args.prb in
    IfErr c.put_given.result (λ f. StopsPutting unused_related unused_line_of g.W.LineSink.grew (g.W.LineSink.stopped f) ys c.args.lines.now c.args.out.now c.put_given.new.out))
    (sym (sym c.is_shown.ensures ∙ c.if-is_shown.false)) c.put_given.ensures.stop
