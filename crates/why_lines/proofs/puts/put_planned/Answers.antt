-- A line of the downlink, or none.
use Rattle.std.proofs.Common.{Bool, List, [], if◌then◌else◌, OnOk, IfErr, subst, sym, ◌∙◌, slice_index}
use Rattle.explain_heard.specs.Runs.{HasPut, StopsPutting}
use Rattle.explain_heard.proofs.RunLemmas.{put_none}
use Rattle.why_lines.specs.Silent.{silent_items_of, silent_line_of, silent_related}
use Rattle.why_lines.specs.declared.items.SilentItem.{SilentItem}
use Rattle.why_lines.proofs.puts.put_planned.Goals as goal

pub returns-then-is_down-clause-ok : goal.returns-then-is_down-clause-ok
returns-then-is_down-clause-ok g c =
    subst (λ (b : Bool). let xs : List SilentItem = if b then silent_items_of c.args.kept.now c.args.cells.now (slice_index c.args.numbers.now c.args.p.now.index) c.args.p.now else [] in
    OnOk c.put_line.result (HasPut silent_related silent_line_of g.W.LineSink.grew xs c.args.lines.now c.args.out.now c.put_line.new.lines c.put_line.new.out))
    (sym c.if-is_down.true ∙ c.is_down.ensures) c.put_line.ensures.ok

pub returns-then-is_down-clause-stop : goal.returns-then-is_down-clause-stop
returns-then-is_down-clause-stop g c =
    subst (λ (b : Bool). let xs : List SilentItem = if b then silent_items_of c.args.kept.now c.args.cells.now (slice_index c.args.numbers.now c.args.p.now.index) c.args.p.now else [] in
    IfErr c.put_line.result (λ f. StopsPutting silent_related silent_line_of g.W.LineSink.grew (g.W.LineSink.stopped f) xs c.args.lines.now c.args.out.now c.put_line.new.out))
    (sym c.if-is_down.true ∙ c.is_down.ensures) c.put_line.ensures.stop

pub returns-else-is_down-clause-ok : goal.returns-else-is_down-clause-ok
returns-else-is_down-clause-ok g c =
    subst (λ (b : Bool). let xs : List SilentItem = if b then silent_items_of c.args.kept.now c.args.cells.now (slice_index c.args.numbers.now c.args.p.now.index) c.args.p.now else [] in
    HasPut silent_related silent_line_of g.W.LineSink.grew xs c.args.lines.now c.args.out.now c.args.lines.now c.args.out.now)
    (sym c.if-is_down.false ∙ c.is_down.ensures) (put_none silent_related silent_line_of g.W.LineSink.grew c.args.lines.now c.args.out.now)
