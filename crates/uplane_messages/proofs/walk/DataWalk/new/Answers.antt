use Rattle.std.proofs.Common.{length, arith, ap, ◌∙◌}
use Rattle.uplane_sections.specs.Messages.{Telling}
use Rattle.uplane_sections.specs.States.{tells}
use Rattle.uplane_messages.specs.Joined.{pieces_of, message_bytes}
use Rattle.uplane_messages.proofs.Pieces.{from_start, message_short}
use Rattle.uplane_messages.proofs.walk.DataWalk.new.Goals as goal

pub invariant_of-result : goal.invariant_of-result
invariant_of-result c =
    let same = ap length (from_start (pieces_of c.args.lease.now)) in
    let short = message_short c.args.lease.now in
    record { fits = omega (arith, same, short, c.new.ensures.used) }

pub returns-clause-left : goal.returns-clause-left
returns-clause-left c =
    let same = ap (tells c.new.result) (from_start (pieces_of c.args.lease.now)) in
    ap (λ (t : Telling). t.items) (same ∙ c.new.ensures.start (message_bytes c.args.lease.now))

pub returns-clause-refusal : goal.returns-clause-refusal
returns-clause-refusal c =
    let same = ap (tells c.new.result) (from_start (pieces_of c.args.lease.now)) in
    ap (λ (t : Telling). t.refusal) (same ∙ c.new.ensures.start (message_bytes c.args.lease.now))
