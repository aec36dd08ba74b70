use Rattle.std.proofs.Common.{ap, ◌∙◌}
use Rattle.plain_units.specs.ClaimedStarts.{is_of_frame}
use Rattle.plain_units.proofs.StartLaws.{named_here, named_later, named_nowhere}
use Rattle.plain_units.proofs.starts.names_frame.Goals as goal

pub returns-then-is_of_frame : goal.returns-then-is_of_frame
returns-then-is_of_frame c =
    named_here c.args.accepted.now c.args.ep c.args.slot.frame c.loop-a.a-index c.a-item.result c.is_of_frame.result _ c.loop-a-test.true c.loop-a.invariant
    (c.is_of_frame.ensures ∙ ap (is_of_frame c.args.ep c.args.slot.frame) c.a-item.is) c.if-is_of_frame.true

pub loop-a-preserved : goal.loop-a-preserved
loop-a-preserved c =
    named_later c.args.accepted.now c.args.ep c.args.slot.frame c.loop-a.a-index c.a-item.result c.is_of_frame.result _ c.loop-a-test.true c.loop-a.invariant
    (c.is_of_frame.ensures ∙ ap (is_of_frame c.args.ep c.args.slot.frame) c.a-item.is) c.if-is_of_frame.false

pub returns : goal.returns
returns c = named_nowhere c.args.accepted.now c.args.ep c.args.slot.frame c.loop-a.a-index _ c.loop-a-test.false c.loop-a.invariant
