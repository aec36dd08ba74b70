use Rattle.std.proofs.Common.{sym, ◌∙◌, subst}
use Rattle.delay_model.proofs.PassLemmas.{frame_passes}
use Rattle.delay_exchange.specs.Units.{HasDoings}
use Rattle.unit_moments.proofs.landing.measure.Goals as goal

pub returns-else-measures : goal.returns-else-measures
returns-else-measures a c x has =
    subst (λ d. HasDoings c d a.pass.new.self) (sym (frame_passes c a.args.at.0 x a.args.bytes.now (sym a.requires.measures ∙ a.if-measures.false))) (a.pass.ensures.has c x has)
