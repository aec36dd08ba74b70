use Rattle.std.proofs.Common.{◌∙◌, ap, add-one, rules, get_or}
use Rattle.bfp_codec.specs.Samples.{no_wide}
use Rattle.report_airs.specs.Totals.{samples_totals, with_element}
use Rattle.report_airs.proofs.Elements.{none_within}
use Rattle.report_airs.proofs.totals.some_totals.Goals as goal

pub loop-k-init : goal.loop-k-init
unfolding samples_totals
loop-k-init c = record {
  value = c.no_totals-totals.ensures;
  within = rw c.no_totals-totals.ensures none_within;
  size = search rules;
}

pub loop-k-preserved : goal.loop-k-preserved
unfolding samples_totals
loop-k-preserved c = record {
  value = rw (add-one c.loop-k.k) (c.with_element-totals.ensures.value ∙ ap (λ t. with_element c.args.mask (get_or c.args.block.now c.loop-k.k no_wide) c.loop-k.k t) c.loop-k.invariant.value);
  within = c.with_element-totals.ensures.within c.loop-k.k c.loop-k.invariant.within;
  size = c.loop-k.invariant.size;
}
