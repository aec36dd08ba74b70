-- Listed, and sorted.
use Rattle.std.proofs.Common.{List, subst}
use Rattle.std.specs.List.Sorted.{IsStableBy}
use Rattle.du_scheduler.proofs.PlanPartLemmas.{parts_are, all_timed, few_parts, lines_below}
use Rattle.du_scheduler.specs.Parts.{part_first}
use Rattle.du_scheduler.specs.declared.parts.TimedPart.{TimedPart}
use Rattle.du_scheduler.proofs.parts.parts_of.Goals as goal

pub returns-clause-value : goal.returns-clause-value
returns-clause-value c = λ e ends.
    parts_are c.args.stream e c.args.ep c.args.lines.now c.sort_parts.new.parts.items
    (subst (λ (xs : List TimedPart). IsStableBy part_first xs c.sort_parts.new.parts.items) c.in_ok-parts.ensures c.sort_parts.ensures.stable)
    c.in_ok-sort_parts.ensures.order c.requires ends

pub returns-clause-times : goal.returns-clause-times
returns-clause-times c =
    all_timed c.args.stream c.args.ep c.args.lines.now c.sort_parts.new.parts.items
    (subst (λ (xs : List TimedPart). IsStableBy part_first xs c.sort_parts.new.parts.items) c.in_ok-parts.ensures c.sort_parts.ensures.stable) c.requires

pub returns-clause-few : goal.returns-clause-few
returns-clause-few c =
    few_parts c.args.stream c.args.ep c.args.lines.now c.in_ok-parts.parts.items c.sort_parts.new.parts.items c.in_ok-parts.ensures c.in_ok-sort_parts.ensures.len c.requires

pub returns-clause-lines : goal.returns-clause-lines
returns-clause-lines c =
    lines_below c.args.stream c.args.ep c.args.lines.now c.sort_parts.new.parts.items
    (subst (λ (xs : List TimedPart). IsStableBy part_first xs c.sort_parts.new.parts.items) c.in_ok-parts.ensures c.sort_parts.ensures.stable)
