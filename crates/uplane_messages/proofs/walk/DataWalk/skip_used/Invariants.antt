use Rattle.std.proofs.Common.{◌≡◌, ◌+◌, ◌-◌, length}
use Rattle.uplane_messages.specs.Joined.{pieces_of, bytes_from}
use Rattle.uplane_messages.specs.Left.{telling_of, lease_of, next_part}
use Rattle.uplane_messages.proofs.walk.DataWalk.skip_used.Given as goal

abbrev pub invariant-loop-self : goal.invariant-loop-self
invariant-loop-self l = record {
  telling : telling_of l.self ≡ telling_of l.fn.self;
  lease : lease_of l.self ≡ lease_of l.fn.self;
  walker : l.self.walker ≡ l.fn.self.walker;
  part : next_part l.self ≡ next_part l.fn.self;
}

-- the pieces and the bytes that are still to follow
abbrev pub decreases-loop-self : goal.decreases-loop-self
decreases-loop-self l = (length (pieces_of l.self.lease.now) - l.self.piece) + length (bytes_from (pieces_of l.self.lease.now) l.self.piece l.self.at)
