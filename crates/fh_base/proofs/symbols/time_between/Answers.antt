use Rattle.std.proofs.Common.{◌≡◌, ◌*◌, ◌%◌, ◌^◌, arith}
use Rattle.std.proofs.lemmas.Nat.{shl_whole}
use Rattle.fh_base.proofs.Sums.{between, within_subframe}
use Rattle.fh_base.proofs.symbols.time_between.Goals as goal

pub returns-clause-value : goal.returns-clause-value
returns-clause-value c =
    let half : 7 * 2 ^ c.args.u % 2 ^ 32 ≡ 7 * 2 ^ c.args.u = shl_whole 7 3 c.args.u 32 (omega arith) (omega arith) in
    between c.args.u c.args.from c.args.to _ _ _ _ _ _ c.requires.u c.requires.order c.longer_between.ensures.value (rw half at c.longer_between-2.ensures.value)

pub returns-clause-small : goal.returns-clause-small
returns-clause-small c =
    within_subframe c.args.u c.args.from c.args.to _ _ c.requires.u c.requires.order c.requires.within c.longer_between.ensures.small c.longer_between-2.ensures.small
