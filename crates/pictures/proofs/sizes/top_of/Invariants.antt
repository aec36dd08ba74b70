use Rattle.std.proofs.Common.{◌≡◌, ◌+◌, ◌*◌, ◌≤◌, take}
use Rattle.std.specs.List.{sum_by}
use Rattle.pictures.specs.Sizes.{block_of}
use Rattle.pictures.proofs.sizes.top_of.Given as goal

abbrev pub invariant-loop-i : goal.invariant-loop-i
invariant-loop-i l = record {
  small : l.y ≤ 62 + l.i * 1048584;
  says : l.y ≡ 62 + sum_by block_of (take l.i l.endpoints);
}
