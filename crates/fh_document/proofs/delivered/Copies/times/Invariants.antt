use Rattle.std.proofs.Common.{◌≡◌, pos, map, take}
use Rattle.fh_document.proofs.delivered.Copies.times.Given as goal

abbrev pub invariant-loop-ns : goal.invariant-loop-ns
invariant-loop-ns l = record {
  items : l.times.items ≡ map pos (take l.ns-index l.ns-items);
}
