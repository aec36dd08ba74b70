use Rattle.std.proofs.Common.{◌+◌, arith, sym, is_some}
use Rattle.slot_rings.specs.Blocks.{block_lent}
use Rattle.slot_rings.proofs.RangeLemmas.{every_not}
use Rattle.slot_rings.proofs.scans.all_there.Goals as goal
use Rattle.unit_model.proofs.ClaimLemmas.{every_one as every_from}

pub returns-then-is_none : goal.returns-then-is_none
returns-then-is_none c = sym (every_not c.args.first c.args.count (λ n. is_some (block_lent c.args.blocks.now (c.args.base + n))) c.loop-n.n
    c.loop-n.auto.n c.loop-n-test.true (grind (arith, c.block.ensures, c.is_none.ensures, c.if-is_none.true, c.if-is_none.ensures)))

pub returns : goal.returns
returns c = sym (every_from c.args.first c.args.count _ (λ k low high. c.loop-n.invariant.all k low (omega (arith, high, c.loop-n-test.false))))
