use Rattle.std.proofs.Common.{sym}
use Rattle.slot_rings.proofs.PendingLemmas.{unflagged}
use Rattle.slot_rings.proofs.ring.SlotRing.is_used.Goals as goal

pub returns-then-not-is_pending : goal.returns-then-not-is_pending
returns-then-not-is_pending c ep =
    unflagged c.args.self.now ep c.args.slot c.args.symbol (λ has. c.is_pending.ensures c.if-not-is_pending.true c.args.slot (sym c.index-index.ensures.value) has ep)
