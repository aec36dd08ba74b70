use Rattle.std.proofs.Common.{◌≡◌, ◌++◌, map, take, drop}
use Rattle.why_lines.specs.Counting.{added}
use Rattle.why_lines.proofs.sums.ReasonSums.count.Given as goal

abbrev pub invariant-loop-k : goal.invariant-loop-k
invariant-loop-k l = l.self.all.items ≡ map (added l.more) (take l.k l.fn.self.all.items) ++ drop l.k l.fn.self.all.items
