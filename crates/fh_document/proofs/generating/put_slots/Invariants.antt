use Rattle.std.proofs.Common.{◌≡◌, ◌++◌}
use Rattle.line_words.specs.Each.{each}
use Rattle.fh_document.specs.Generated.{plans_text}
use Rattle.fh_document.proofs.generating.put_slots.Given as goal

abbrev pub invariant-loop-n : goal.invariant-loop-n
invariant-loop-n l = l.text ≡ l.initial.text ++ each plans_text l.n
