use Rattle.std.proofs.Common.{◌≡◌, ◌+◌, ◌∙◌, sym, ap}
use Rattle.std.specs.Prelude.{is_some, true, false}
use Rattle.ecpri_frames.specs.Messages.{pdu}
use Rattle.fault_counters.specs.declared.kinds.Counter.TheVariants.{Frames}
use Rattle.fault_counters.specs.Counts.{once}
use Rattle.plain_units.proofs.PlainLemmas.{counted_as}
use Rattle.unit_model.proofs.CountLemmas.{frame_refused, frame_sound}
use Rattle.plain_units.proofs.plain.Plain.count_frame.Goals as goal

pub returns-then-is_some : goal.returns-then-is_some
returns-then-is_some c side conf n fs cs ds h =
    let r = (pdu c.args.frame.now).refusal in
    let same : c.refusal.result ≡ r = c.refusal.ensures ∙ ap (λ xs. (pdu xs).refusal) c.messages.ensures.frame in
    let some : is_some r ≡ true = ap is_some (sym same) ∙ sym c.is_some.ensures ∙ c.if-is_some.true in
    counted_as c.count-then-is_some.new.self side conf _ _ fs cs ds (λ k. frame_refused r (n k) k some)
    (c.count-then-is_some.ensures side conf (λ k. n k + once Frames k) fs cs ds (c.count.ensures side conf n fs cs ds h))

pub returns-else-is_some : goal.returns-else-is_some
returns-else-is_some c side conf n fs cs ds h =
    let r = (pdu c.args.frame.now).refusal in
    let same : c.refusal.result ≡ r = c.refusal.ensures ∙ ap (λ xs. (pdu xs).refusal) c.messages.ensures.frame in
    let none : is_some r ≡ false = ap is_some (sym same) ∙ sym c.is_some.ensures ∙ c.if-is_some.false in
    counted_as c.count.new.self side conf _ _ fs cs ds (λ k. frame_sound r (n k) k none) (c.count.ensures side conf n fs cs ds h)
