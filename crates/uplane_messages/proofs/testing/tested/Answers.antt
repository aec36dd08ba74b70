use Rattle.std.proofs.Common.{◌≡◌, None, sym, ◌∙◌}
use Rattle.uplane_sections.specs.Header.{head_of}
use Rattle.uplane_sections.specs.Messages.{told}
use Rattle.uplane_messages.specs.Joined.{message_bytes}
use Rattle.uplane_messages.specs.Left.{left_of}
use Rattle.uplane_messages.proofs.Whole.{message_whole, its_head}
use Rattle.uplane_messages.proofs.testing.tested.Goals as goal

pub returns-clause-whole : goal.returns-clause-whole
returns-clause-whole c =
    let bytes = message_bytes c.args.lease.now in
    let steps = c.next-first.ensures.steps in
    let none : (told c.args.format c.args.prbs c.args.shape bytes).refusal ≡ None = sym c.new-walk.ensures.refusal ∙ sym steps.1 ∙ sym c.refusal.ensures ∙ c.in_default.is in
    let whole = message_whole c.args.format c.args.prbs c.args.shape bytes none in
    let gives = rw c.in-Some-Head.is at steps.0 in
    its_head c.args.prbs c.args.shape (head_of bytes) c.in-Some-Head.head (told c.args.format c.args.prbs c.args.shape bytes).items (left_of c.next-first.new.self) c.in-Some-Head.field-0
    (rw c.in-Some-Head.is at c.in-Some-Head.field-0-is) (sym c.new-walk.ensures.left ∙ gives.first) whole
