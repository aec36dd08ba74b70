use Rattle.std.proofs.Common.{◌≡◌, take}
use Rattle.document_texts.proofs.copying.copy_list.Given as goal

abbrev pub invariant-loop-k : goal.invariant-loop-k
invariant-loop-k g l = record {
  items : l.copy ≡ take l.k l.items;
}
