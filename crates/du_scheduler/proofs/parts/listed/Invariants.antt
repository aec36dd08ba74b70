use Rattle.std.proofs.Common.{◌≡◌, ◌++◌, map, drop}
use Rattle.du_scheduler.specs.Parts.{timed, listed}
use Rattle.du_scheduler.proofs.parts.listed.Given as goal

abbrev pub invariant-loop-line : goal.invariant-loop-line
invariant-loop-line l = l.parts.items ++ map (timed l.stream) (listed l.stream l.ep (drop l.line-index l.lines)) ≡ map (timed l.stream) (listed l.stream l.ep l.lines)
