use Rattle.std.proofs.Common.{◌≡◌, ◌++◌}
use Rattle.line_words.specs.Each.{each}
use Rattle.fh_document.specs.Generated.{deliver_text}
use Rattle.fh_document.proofs.generating.put_deliveries.Given as goal

abbrev pub invariant-loop-j : goal.invariant-loop-j
invariant-loop-j l = l.text ≡ l.initial.text ++ each (deliver_text l.seed) l.j
