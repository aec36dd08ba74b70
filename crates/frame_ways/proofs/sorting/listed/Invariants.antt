use Rattle.std.proofs.Common.{◌≡◌, take}
use Rattle.frame_ways.specs.Queues.{enumerated}
use Rattle.frame_ways.proofs.sorting.listed.Given as goal

abbrev pub invariant-loop-index : goal.invariant-loop-index
invariant-loop-index l = record {
  items : l.landings.items ≡ enumerated (take l.index l.times);
}
