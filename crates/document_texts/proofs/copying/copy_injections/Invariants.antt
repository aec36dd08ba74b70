use Rattle.std.proofs.Common.{◌≡◌, take}
use Rattle.document_texts.proofs.copying.copy_injections.Given as goal

abbrev pub invariant-loop-k : goal.invariant-loop-k
invariant-loop-k l = record {
  items : l.copy ≡ take l.k l.injections;
}
