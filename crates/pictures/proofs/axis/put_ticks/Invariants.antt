use Rattle.std.proofs.Common.{◌≡◌, ◌++◌}
use Rattle.line_words.specs.Each.{each}
use Rattle.pictures.specs.Axis.{nth_tick}
use Rattle.pictures.proofs.axis.put_ticks.Given as goal

abbrev pub invariant-loop-k : goal.invariant-loop-k
invariant-loop-k l = l.to ≡ l.initial.to ++ each (nth_tick l.windows) l.k
