use Rattle.std.proofs.Common.{◌∷◌, subst}
use Rattle.delay_measure.specs.declared.edge.Edge.TheVariants.{Sending}
use Rattle.delay_measure.specs.After.{AreAfter, begins}
use Rattle.delay_measure.proofs.meter.Meter.begin.Goals as goal

pub returns-clause-stands : goal.returns-clause-stands
returns-clause-stands g c = λ s r told sends.
    let a = c.args in
    subst (λ x. AreAfter x r told a.self.now.measurements → AreAfter x r (begins a.at.0 a.id a.kind ∷ told) c.begin.new.self)
    (c.requires.kept.one Sending _ s c.compensation-comp.ensures.sending sends) (c.begin.ensures.after r told)
