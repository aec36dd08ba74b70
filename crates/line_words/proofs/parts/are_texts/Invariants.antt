use Rattle.std.proofs.Common.{◌≡◌, take}
use Rattle.line_words.specs.Words.{are_texts}
use Rattle.line_words.proofs.parts.are_texts.Given as goal

abbrev pub invariant-loop-b : goal.invariant-loop-b
invariant-loop-b l = l.all ≡ are_texts (take l.b-index l.text)
