use Rattle.std.proofs.Common.{ap, ◌∙◌}
use Rattle.plain_units.specs.ClaimedStarts.{is_claimed_way}
use Rattle.plain_units.proofs.StartLaws.{claimed_here, claimed_later, claimed_nowhere}
use Rattle.plain_units.proofs.starts.is_claimed_in.Goals as goal

pub returns-then-is_in : goal.returns-then-is_in
returns-then-is_in c =
    claimed_here c.args.accepted.now c.args.ep c.args.down c.args.slot c.args.symbol c.loop-a.a-index c.a-item.result c.is_in.result _ c.loop-a-test.true c.loop-a.invariant
    (c.is_in.ensures ∙ ap (is_claimed_way c.args.ep c.args.down c.args.slot c.args.symbol) c.a-item.is) c.if-is_in.true

pub loop-a-preserved : goal.loop-a-preserved
loop-a-preserved c =
    claimed_later c.args.accepted.now c.args.ep c.args.down c.args.slot c.args.symbol c.loop-a.a-index c.a-item.result c.is_in.result _ c.loop-a-test.true c.loop-a.invariant
    (c.is_in.ensures ∙ ap (is_claimed_way c.args.ep c.args.down c.args.slot c.args.symbol) c.a-item.is) c.if-is_in.false

pub returns : goal.returns
returns c = claimed_nowhere c.args.accepted.now c.args.ep c.args.down c.args.slot c.args.symbol c.loop-a.a-index _ c.loop-a-test.false c.loop-a.invariant
