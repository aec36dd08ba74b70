use Rattle.std.proofs.Common.{◌∙◌, length, nat_lt, rules, subst}
use Rattle.std.proofs.lemmas.Int.{to_z-of_z}
use mir.Syntax.{w128}
use mir.Val.{SFits}
use Rattle.delay_measure.specs.declared.message.DelayMessage.{DelayMessage}
use Rattle.delay_measure.specs.Kept.{exchange_of}
use Rattle.delay_measure.specs.Payload.{message_of}
use Rattle.calling_examples.proofs.Responses.{IsDelay, is_delay, read_as}
use Rattle.calling_examples.proofs.delays.delay.Goals as goal

pub returns-in-Result-clause-delay : goal.returns-in-Result-clause-delay
returns-in-Result-clause-delay g c =
    let m = c.in_ok-message.message in
    let meter = c.args.meter.now in
    let fits : SFits w128 c.in-Result.delay = search rules in
    let read = read_as (nat_lt (length c.args.payload.now) 20) m (message_of c.args.payload.now) c.in_ok-message.ensures in
    let found = is_delay (exchange_of meter m.id) m _ _ _ c.in-Result.delay c.if-message-ne-RESPONSE.false c.in-Result.ensures.step.4 in
    subst (λ (x : DelayMessage). IsDelay (exchange_of meter x.id).own x (mir.Val.to_z w128 (mir.Val.of_z w128 c.in-Result.delay))) read
    (found.0, found.1, to_z-of_z w128 c.in-Result.delay fits ∙ found.2)
