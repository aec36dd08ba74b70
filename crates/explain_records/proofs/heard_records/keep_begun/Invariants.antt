use Rattle.std.proofs.Common.{◌≡◌, ◌++◌, take}
use Rattle.explain_records.proofs.heard_records.keep_begun.Given as goal

abbrev pub invariant-loop-r : goal.invariant-loop-r
invariant-loop-r l = l.kept ≡ record l.initial.kept { begun = l.initial.kept.begun ++ take l.r-index l.all }
