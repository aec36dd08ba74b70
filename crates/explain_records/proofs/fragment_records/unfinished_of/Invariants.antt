use Rattle.std.proofs.Common.{◌≡◌, take}
use Rattle.explain_records.specs.Recorded.{unfinished_in}
use Rattle.explain_records.proofs.fragment_records.unfinished_of.Given as goal

abbrev pub invariant-loop-b : goal.invariant-loop-b
invariant-loop-b l = l.all.items ≡ unfinished_in (take l.b-index l.begun)
