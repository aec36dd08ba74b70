use Rattle.std.proofs.Common.{◌+◌, ◌≤◌, arith, length, sym}
use Rattle.du_intake.proofs.ListingLemmas.{end_is, same_more}
use Rattle.du_intake.proofs.symbols.slot_end.Goals as goal

pub loop-k-preserved : goal.loop-k-preserved
loop-k-preserved c = same_more c.args.lines.now c.args.first c.loop-k.k _ c.loop-k.invariant (sym c.if-not-same_home.ensures)

pub returns : goal.returns
returns c =
    let some : c.args.first + 1 ≤ length c.args.lines.now = (let h = c.requires in omega (arith, h)) in
    end_is c.args.lines.now c.args.first c.loop-k.k c.requires c.loop-k.auto.k (c.loop-k.auto.k-end some) c.loop-k-test.false c.loop-k.invariant
