use Rattle.std.proofs.Common.{take, All, IsTrue}
use Rattle.shared_cell.specs.Places.{place_of, is_at}
use Rattle.shared_cell.specs.Combined.{AgreeIn}
use Rattle.text_tests.proofs.following.all_agree.Given as goal

abbrev pub invariant-loop-d : goal.invariant-loop-d
invariant-loop-d l = All (λ d. IsTrue (is_at (place_of l.c) d) → AgreeIn l.c d) (take l.d-index l.cells)
