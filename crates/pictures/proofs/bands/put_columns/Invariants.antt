use Rattle.std.proofs.Common.{◌≡◌, ◌++◌}
use Rattle.line_words.specs.Each.{each}
use Rattle.pictures.specs.Bands.{column_text}
use Rattle.pictures.proofs.bands.put_columns.Given as goal

abbrev pub invariant-loop-k : goal.invariant-loop-k
invariant-loop-k l = l.to ≡ l.initial.to ++ each (column_text l.span) l.k
