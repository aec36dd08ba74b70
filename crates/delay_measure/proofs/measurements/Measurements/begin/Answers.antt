use Rattle.std.proofs.Common.{◌<◌, length, rules, refl, ap, ◌∙◌}
use Rattle.delay_measure.specs.Table.{after_begin}
use Rattle.delay_measure.specs.Kept.{exchange_at}
use Rattle.delay_measure.specs.After.{begins}
use Rattle.delay_measure.proofs.After.{told_stored}
use Rattle.delay_measure.proofs.measurements.Measurements.begin.Goals as goal

pub returns-clause-after : goal.returns-clause-after
returns-clause-after c = λ r told before.
    let a = c.args in
    let xs = a.self.now.exchanges in
    let room : a.id < length xs = search rules in
    told_stored a.comp.sending r (begins a.at.0 a.id a.kind) told a.id xs c.begin-begun.result.0 refl room
    (ap (λ p. p.0) c.begin-begun.ensures.table ∙ ap (λ z. (after_begin (exchange_at a.self.now a.id) a.kind a.id z).0) c.stamp_sent-now.ensures) before
