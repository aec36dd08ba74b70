use Rattle.std.proofs.Common.{◌≡◌, ◌++◌}
use Rattle.line_words.specs.Each.{each}
use Rattle.fh_document.specs.Generated.{plan_text}
use Rattle.fh_document.proofs.generating.put_slot.Given as goal

abbrev pub invariant-loop-e : goal.invariant-loop-e
invariant-loop-e l = l.text ≡ l.initial.text ++ each (plan_text l.n) l.e
