use Rattle.std.proofs.Common.{◌≡◌, ◌++◌, map, take}
use Rattle.why_lines.specs.Counting.{none_of}
use Rattle.why_lines.proofs.sums.push_unit.Given as goal

abbrev pub invariant-loop-endpoint : goal.invariant-loop-endpoint
invariant-loop-endpoint l = l.all.items ≡ l.initial.all.items ++ map (none_of l.side) (take l.endpoint-index l.endpoints)
