use Rattle.std.proofs.Common.{rules, cond, get_or, arith}
use Rattle.std.proofs.lemmas.List.FromFn.{fill_by_all}
use Rattle.shared_cell.specs.Joined.{plus, in_mask, sample_at, no_sum}
use Rattle.std.proofs.lemmas.Grind.{common_steps}
use Rattle.shared_cell.proofs.Bounds.{next_set, next_kept}
use Rattle.shared_cell.proofs.joining.add_samples.Goals as goal
use Rattle.shared_cell.proofs.joining.add_samples.Goals.{then-mask-k-eq1, else-mask-k-eq1}

pub returns-clause-value : goal.returns-clause-value
returns-clause-value c =
    let old = c.args.sums.now in
    fill_by_all (λ k. cond (in_mask c.args.mask k) (plus (get_or old k no_sum) (sample_at c.args.block.now k)) (get_or old k no_sum)) c.loop-k.sums 12 no_sum c.loop-k.invariant.size (search rules)

pub loop-k-preserved : goal.loop-k-preserved
loop-k-preserved c = record {
  source = c.loop-k.invariant.source;
  size = search rules;
  bounds = c.loop-k.invariant.bounds;
  done = grind (arith, common_steps);
  within = elim c.if-mask-k-eq1.branch [
    | then-mask-k-eq1 w ↦
        next_set c.args.sums.now c.loop-k.sums c.if-mask-k-eq1.sums c.loop-k.k w.plus.result (omega (arith, c.loop-k-test.true, c.loop-k.invariant.size))
        c.loop-k.invariant.within c.loop-k.invariant.left w.plus.ensures.within w.sums-is
    | else-mask-k-eq1 w ↦
        next_kept c.args.sums.now c.loop-k.sums c.if-mask-k-eq1.sums c.loop-k.k c.loop-k.invariant.within c.loop-k.invariant.left w.sums-is
  ];
  left = grind (arith, common_steps);
}
