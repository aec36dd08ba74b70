use Rattle.std.proofs.Common.{◌≡◌, map, take}
use Rattle.document_texts.specs.Units.{moved_delivery}
use Rattle.document_texts.proofs.moving.moved_deliveries.Given as goal

abbrev pub invariant-loop-k : goal.invariant-loop-k
invariant-loop-k l = record {
  items : l.list ≡ map (moved_delivery l.fn.more) (take l.k l.deliveries);
}
