use Rattle.std.proofs.Common.{◌+◌, [], ◌∷◌, refl, sym, ap, ◌∙◌}
use Rattle.uplane_sections.specs.declared.values.UHead.{UHead}
use Rattle.uplane_sections.specs.Messages.{Head, after, sections}
use Rattle.uplane_sections.specs.Phases.{checked}
use Rattle.uplane_sections.proofs.Told.{head_step}
use Rattle.uplane_sections.proofs.units.head.Goals as goal

pub returns-in-Ok-clause-tells : goal.returns-in-Ok-clause-tells
returns-in-Ok-clause-tells c format prbs rest =
    let shape = c.args.shape in
    let at = c.args.at in
    head_step format prbs shape at c.args.bytes.now rest c.requires
    ∙ ap (λ r. checked at r (λ (h : UHead). after (Head h ∷ []) (sections format prbs shape (at + 4) h.symbol 0 rest))) (sym c.head_at.ensures.value ∙ c.in-Ok.is)

pub returns-in-Err-clause-tells : goal.returns-in-Err-clause-tells
returns-in-Err-clause-tells c format prbs rest =
    let shape = c.args.shape in
    let at = c.args.at in
    head_step format prbs shape at c.args.bytes.now rest c.requires
    ∙ ap (λ r. checked at r (λ (h : UHead). after (Head h ∷ []) (sections format prbs shape (at + 4) h.symbol 0 rest))) (sym c.head_at.ensures.value ∙ c.in-Err.is)
    ∙ rw (c.refused.ensures.what, c.refused.ensures.phase) refl
