use Rattle.std.proofs.Common.{◌≡◌, ◌++◌}
use Rattle.line_words.specs.Each.{each}
use Rattle.pictures.specs.Bars.{nth_column}
use Rattle.pictures.proofs.bars.put_bars.Given as goal

abbrev pub invariant-loop-column : goal.invariant-loop-column
invariant-loop-column l = l.to ≡ l.initial.to ++ each (nth_column l.base l.columns) l.column
