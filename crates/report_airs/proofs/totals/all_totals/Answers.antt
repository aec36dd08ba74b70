use Rattle.std.proofs.Common.{◌∙◌, ap, add-one, rules, get_or}
use Rattle.bfp_codec.specs.Samples.{no_wide}
use Rattle.report_airs.specs.Totals.{samples_totals, with_sample}
use Rattle.report_airs.proofs.Elements.{all_in, none_within}
use Rattle.report_airs.proofs.totals.all_totals.Goals as goal

pub loop-k-init : goal.loop-k-init
unfolding samples_totals
loop-k-init c = record {
  value = c.no_totals-totals.ensures;
  within = rw c.no_totals-totals.ensures none_within;
  size = search rules;
}

pub loop-k-preserved : goal.loop-k-preserved
unfolding samples_totals
loop-k-preserved c = record {
  value = rw (add-one c.loop-k.k) (c.with_sample-totals.ensures.value
      ∙ ap (λ t. with_sample (get_or c.args.block.now c.loop-k.k no_wide) t) c.loop-k.invariant.value
      ∙ all_in c.args.mask (get_or c.args.block.now c.loop-k.k no_wide) c.loop-k.k (samples_totals c.args.mask c.args.block.now c.loop-k.k) c.requires.full c.loop-k-test.true);
  within = c.with_sample-totals.ensures.within c.loop-k.k c.loop-k.invariant.within;
  size = c.loop-k.invariant.size;
}
