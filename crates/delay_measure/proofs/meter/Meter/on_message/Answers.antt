use Rattle.std.proofs.Common.{ℤ, ◌∷◌, subst}
use Rattle.delay_measure.specs.declared.edge.Edge.TheVariants.{Sending, Receiving}
use Rattle.delay_measure.specs.After.{AreAfter, comes}
use Rattle.delay_measure.proofs.meter.Meter.on_message.Goals as goal

pub returns-clause-stands : goal.returns-clause-stands
returns-clause-stands g c = λ s r told sends receives.
    let a = c.args in
    let comp = c.compensation-comp in
    let Grows : ℤ → ℤ → Type 0 = λ x y. AreAfter x y told a.self.now.measurements → AreAfter x y (comes a.at.0 a.m.now ∷ told) c.on_message.new.self in
    subst (λ x. Grows x r) (c.requires.kept.one Sending _ s comp.ensures.sending sends)
    (subst (λ y. Grows comp.result.sending y) (c.requires.kept.one Receiving _ r comp.ensures.receiving receives) (c.on_message.ensures.after told))
