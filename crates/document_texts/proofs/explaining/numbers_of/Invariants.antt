use Rattle.document_texts.proofs.NumberLemmas.{Goes}
use Rattle.document_texts.proofs.explaining.numbers_of.Given as goal

abbrev pub invariant-loop-k : goal.invariant-loop-k
invariant-loop-k l = Goes l.k l.document.plan_lines l.numbers.items
