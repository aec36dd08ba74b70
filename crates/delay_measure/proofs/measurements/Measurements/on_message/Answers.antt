use Rattle.std.proofs.Common.{◌<◌, length, rules, refl, ap, ◌∙◌}
use Rattle.delay_measure.specs.Stamps.{sending_stamp}
use Rattle.delay_measure.specs.Table.{after_message}
use Rattle.delay_measure.specs.Kept.{exchange_at}
use Rattle.delay_measure.specs.After.{comes}
use Rattle.delay_measure.proofs.After.{told_stored}
use Rattle.delay_measure.proofs.measurements.Measurements.on_message.Goals as goal

pub returns-clause-after : goal.returns-clause-after
returns-clause-after c = λ told before.
    let m = c.args.m.now in
    let t = c.args.at.0 in
    let comp = c.args.comp in
    let xs = c.args.self.now.exchanges in
    let old = exchange_at c.args.self.now m.id in
    let room : m.id < length xs = search rules in
    told_stored comp.sending comp.receiving (comes t m) told m.id xs c.take-step.result.0 refl room
    (ap (λ p. p.0) c.take-step.ensures.table ∙ ap (λ z. (after_message old m z c.stamp_received-receiving.result).0) c.stamp_sent-sending.ensures
    ∙ ap (λ z. (after_message old m (sending_stamp t comp.sending) z).0) c.stamp_received-receiving.ensures) before
