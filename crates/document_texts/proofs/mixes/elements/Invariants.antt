use Rattle.std.proofs.Common.{◌≡◌, ◌+◌, ◌*◌, ◌≤◌, ◌++◌, length}
use Rattle.document_texts.specs.Lines.{elements_text}
use Rattle.document_texts.proofs.mixes.elements.Given as goal

abbrev pub invariant-loop-n : goal.invariant-loop-n
invariant-loop-n l =
    (l.line ≡ l.initial.line ++ elements_text l.m l.first l.n) × (length l.line ≤ 180 + 42 * l.n)
