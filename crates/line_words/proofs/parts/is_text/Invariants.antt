use Rattle.std.proofs.Common.{◌≡◌, take}
use Rattle.line_words.specs.Words.{is_text}
use Rattle.line_words.proofs.parts.is_text.Given as goal

abbrev pub invariant-loop-b : goal.invariant-loop-b
invariant-loop-b l = l.text ≡ is_text (take l.b-index l.line)
