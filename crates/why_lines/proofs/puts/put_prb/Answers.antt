-- The item, if there is one.
use Rattle.std.proofs.Common.{List, OnOk, IfErr, subst}
use Rattle.explain_heard.specs.Runs.{HasPut, StopsPutting}
use Rattle.explain_heard.proofs.RunLemmas.{put_none}
use Rattle.why_lines.specs.Silent.{silent_line_of, silent_related}
use Rattle.why_lines.specs.declared.items.SilentItem.{SilentItem}
use Rattle.why_lines.proofs.puts.put_prb.Goals as goal

pub returns-in-Some-clause-ok : goal.returns-in-Some-clause-ok
returns-in-Some-clause-ok g c =
    subst (λ (xs : List SilentItem). OnOk c.put.result (HasPut silent_related silent_line_of g.W.LineSink.grew xs c.args.lines.now c.args.out.now c.put.new.self c.put.new.out))
    c.in-Some.ensures.items c.put.ensures.ok

pub returns-in-Some-clause-stop : goal.returns-in-Some-clause-stop
returns-in-Some-clause-stop g c =
    subst (λ (xs : List SilentItem). IfErr c.put.result (λ f. StopsPutting silent_related silent_line_of g.W.LineSink.grew (g.W.LineSink.stopped f) xs c.args.lines.now c.args.out.now c.put.new.out))
    c.in-Some.ensures.items c.put.ensures.stop

pub returns-in-None-clause-ok : goal.returns-in-None-clause-ok
returns-in-None-clause-ok g c =
    subst (λ (xs : List SilentItem). HasPut silent_related silent_line_of g.W.LineSink.grew xs c.args.lines.now c.args.out.now c.args.lines.now c.args.out.now)
    c.in-None.ensures.items (put_none silent_related silent_line_of g.W.LineSink.grew c.args.lines.now c.args.out.now)
