use Rattle.std.proofs.Common.{◌≡◌, map, take}
use Rattle.document_texts.specs.Units.{moved}
use Rattle.document_texts.proofs.moving.moved_copies.Given as goal

abbrev pub invariant-loop-k : goal.invariant-loop-k
invariant-loop-k l = record {
  items : l.longer ≡ map (moved l.fn.more) (take l.k l.times);
}
