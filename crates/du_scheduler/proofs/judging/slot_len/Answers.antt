-- Line by line.
use Rattle.std.proofs.Common.{sym, ◌∙◌}
use Rattle.schedule_laws.proofs.SlotRunLemmas.{same_first, same_more, run_ends, run_whole}
use Rattle.du_scheduler.proofs.judging.slot_len.Goals as goal

pub loop-k-init : goal.loop-k-init
loop-k-init c = same_first c.args.lines.now

pub loop-k-preserved : goal.loop-k-preserved
loop-k-preserved c =
    same_more c.args.lines.now c.loop-k.k c.index-lines-k.result c.index-lines-0.result c.loop-k.invariant c.loop-k.auto.k c.loop-k-test.true
    (sym c.same_slot.ensures ∙ c.if-not-same_slot.false)

pub returns-then-not-same_slot : goal.returns-then-not-same_slot
returns-then-not-same_slot c =
    run_ends c.args.lines.now c.loop-k.k c.index-lines-k.result c.index-lines-0.result c.loop-k.invariant c.loop-k.auto.k c.loop-k-test.true
    (sym c.same_slot.ensures ∙ c.if-not-same_slot.true)

pub returns : goal.returns
returns c = run_whole c.args.lines.now c.loop-k.k c.loop-k.invariant c.requires c.loop-k.auto.k c.loop-k.auto.k-end c.loop-k-test.false
