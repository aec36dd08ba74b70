use Rattle.std.proofs.Common.{◌+◌, ◌≤◌, length}
use Rattle.uplane_messages.specs.Left.{left_of}
use Rattle.uplane_messages.specs.Whole.{AreSections}
use Rattle.base_tests.proofs.walks.missing.Given as goal

abbrev pub invariant-loop-next : goal.invariant-loop-next
invariant-loop-next l = record {
  sections : AreSections 106 (record { symbols = 14; slots = 2 }) l.next l.left (left_of l.walk);
  small : l.next + l.left ≤ 1300;
}

abbrev pub decreases-loop-next : goal.decreases-loop-next
decreases-loop-next l = length (left_of l.walk)
