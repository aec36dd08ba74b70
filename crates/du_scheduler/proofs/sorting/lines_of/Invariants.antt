use Rattle.std.proofs.Common.{◌≡◌, ◌==◌, filter, take}
use Rattle.du_scheduler.proofs.sorting.lines_of.Given as goal

abbrev pub invariant-loop-line : goal.invariant-loop-line
invariant-loop-line l = l.of_endpoint.items ≡ filter (λ p. p.ep == l.ep) (take l.line-index l.lines)
