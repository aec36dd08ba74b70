use Rattle.std.proofs.Common.{◌≡◌, length}
use Rattle.du_scheduler.specs.Ranges.{IsOpenMessage}
use Rattle.du_scheduler.specs.Walks.{complete_from, left_of}
use Rattle.du_scheduler.proofs.complete.CompleteMessagesIterator.next.Given as goal

abbrev pub invariant-loop-part : goal.invariant-loop-part
invariant-loop-part l = record {
  is_open : IsOpenMessage l.self.limits.now l.message;
  left : left_of l.fn.self ≡ complete_from l.self.limits.now l.message l.self.rest.now;
}

abbrev pub decreases-loop-part : goal.decreases-loop-part
decreases-loop-part l = length l.self.rest.now
