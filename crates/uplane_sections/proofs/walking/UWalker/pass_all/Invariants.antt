use Rattle.std.proofs.Common.{◌≡◌, ◌+◌, ◌-◌, ◌≤◌, length, take}
use Rattle.uplane_sections.specs.States.{used_by, Passes}
use Rattle.uplane_sections.proofs.walking.UWalker.pass_all.Given as goal

abbrev pub invariant-loop-at : goal.invariant-loop-at
invariant-loop-at l = record {
  within : l.at ≤ length l.piece;
  used : used_by l.self ≡ used_by l.fn.self + l.at;
  passes : Passes l.fn.self l.self (take l.at l.piece);
}

abbrev pub decreases-loop-at : goal.decreases-loop-at
decreases-loop-at l = length l.piece - l.at
