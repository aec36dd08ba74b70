use Rattle.std.proofs.Common.{◌≡◌, drop}
use Rattle.plain_units.specs.ClaimedStarts.{names_frame}
use Rattle.plain_units.proofs.starts.names_frame.Given as goal

abbrev pub invariant-loop-a : goal.invariant-loop-a
invariant-loop-a l = names_frame (drop l.a-index l.accepted) l.ep l.slot.frame ≡ names_frame l.accepted l.ep l.slot.frame
