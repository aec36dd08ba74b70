use Rattle.std.proofs.Common.{take}
use Rattle.shared_cell.specs.Combined.{Stands}
use Rattle.text_tests.proofs.following.mix.Given as goal

abbrev pub invariant-loop-k : goal.invariant-loop-k
invariant-loop-k l = Stands l.mixer (take l.k l.cells)
