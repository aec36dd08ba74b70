use Rattle.std.proofs.Common.{◌≡◌, ◌+◌, ◌-◌, length}
use Rattle.uplane_messages.specs.Joined.{pieces_of, bytes_from}
use Rattle.uplane_messages.specs.Left.{telling_of, lease_of}
use Rattle.uplane_messages.proofs.walk.DataWalk.advance.Given as goal

abbrev pub invariant-loop-self : goal.invariant-loop-self
invariant-loop-self l = record {
  telling : telling_of l.fn.self ≡ telling_of l.self;
  lease : lease_of l.self ≡ lease_of l.fn.self;
}

-- the pieces and the bytes that are still to follow
abbrev pub decreases-loop-self : goal.decreases-loop-self
decreases-loop-self l = (length (pieces_of l.self.lease.now) - l.self.piece) + length (bytes_from (pieces_of l.self.lease.now) l.self.piece l.self.at)
