use Rattle.std.proofs.Common.{◌≡◌, ◌++◌}
use Rattle.line_words.specs.Each.{each}
use Rattle.pictures.specs.Bands.{slots_text}
use Rattle.pictures.proofs.bands.put_lines.Given as goal

abbrev pub invariant-loop-subframe : goal.invariant-loop-subframe
invariant-loop-subframe l = l.to ≡ l.initial.to ++ each (slots_text l.span l.e l.y) l.subframe
