use Rattle.std.proofs.Common.{◌≡◌, ◌-◌, length}
use Rattle.uplane_messages.specs.Joined.{pieces_of}
use Rattle.uplane_messages.specs.Left.{lease_of, refusal_of}
use Rattle.uplane_messages.proofs.walk.DataWalk.refusal.Given as goal

abbrev pub invariant-loop-walk : goal.invariant-loop-walk
invariant-loop-walk l = record {
  refusal : refusal_of l.walk ≡ refusal_of l.self;
  lease : lease_of l.walk ≡ lease_of l.self;
}

abbrev pub decreases-loop-walk : goal.decreases-loop-walk
decreases-loop-walk l = length (pieces_of (lease_of l.walk)) - l.walk.piece
