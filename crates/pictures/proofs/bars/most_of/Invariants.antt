use Rattle.std.proofs.Common.{◌≡◌, ◌<◌, ◌^◌, take}
use Rattle.pictures.specs.Bars.{most_of}
use Rattle.pictures.proofs.bars.most_of.Given as goal

abbrev pub invariant-loop-counts : goal.invariant-loop-counts
invariant-loop-counts l = record {
  is : l.most ≡ most_of (take l.counts-index l.columns);
  small : l.most < 2 ^ 34;
}
