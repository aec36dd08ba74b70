use Rattle.std.proofs.Common.{◌+◌, [], ◌∷◌, refl, sym, ap, ◌∙◌, cond}
use Rattle.uplane_sections.specs.declared.values.USection.{USection}
use Rattle.uplane_sections.specs.Section.{section_with}
use Rattle.uplane_sections.specs.Messages.{Section, Telling, after}
use Rattle.uplane_sections.specs.Phases.{checked, in_section, behind_first}
use Rattle.uplane_sections.proofs.Told.{section_step}
use Rattle.uplane_sections.proofs.units.section.Goals as goal

pub returns-in-Err-clause-tells : goal.returns-in-Err-clause-tells
returns-in-Err-clause-tells c rest =
    let f = c.args.format in
    let at = c.args.at in
    section_step f c.args.prbs c.args.shape at c.args.before c.args.bytes.now rest c.requires.four
    ∙ ap (λ r. checked at r (λ symbol. cond f.dynamic (behind_first f c.args.prbs c.args.shape (at + 4) (section_with symbol f.method c.args.bytes.now) rest) (in_section f c.args.prbs c.args.shape (at + 4) (section_with symbol f.method c.args.bytes.now) rest)))
    (sym c.symbol_at.ensures.value ∙ c.in-Err.is)
    ∙ rw (c.refused.ensures.what, c.refused.ensures.phase) refl

pub returns-then-format-clause-tells : goal.returns-then-format-clause-tells
returns-then-format-clause-tells c rest =
    let f = c.args.format in
    let at = c.args.at in
    section_step f c.args.prbs c.args.shape at c.args.before c.args.bytes.now rest c.requires.four
    ∙ ap (λ r. checked at r (λ symbol. cond f.dynamic (behind_first f c.args.prbs c.args.shape (at + 4) (section_with symbol f.method c.args.bytes.now) rest) (in_section f c.args.prbs c.args.shape (at + 4) (section_with symbol f.method c.args.bytes.now) rest)))
    (sym c.symbol_at.ensures.value ∙ c.in-Ok.is)
    ∙ rw (c.if-format.true, c.section_from-s.ensures.value) refl

pub returns-clause-tells : goal.returns-clause-tells
returns-clause-tells c rest =
    let f = c.args.format in
    let at = c.args.at in
    section_step f c.args.prbs c.args.shape at c.args.before c.args.bytes.now rest c.requires.four
    ∙ ap (λ r. checked at r (λ symbol. cond f.dynamic (behind_first f c.args.prbs c.args.shape (at + 4) (section_with symbol f.method c.args.bytes.now) rest) (in_section f c.args.prbs c.args.shape (at + 4) (section_with symbol f.method c.args.bytes.now) rest)))
    (sym c.symbol_at.ensures.value ∙ c.in-Ok.is)
    ∙ ap (λ b. cond b (behind_first f c.args.prbs c.args.shape (at + 4) (section_with c.in-Ok.symbol f.method c.args.bytes.now) rest) (in_section f c.args.prbs c.args.shape (at + 4) (section_with c.in-Ok.symbol f.method c.args.bytes.now) rest)) c.if-format.false
    ∙ ap (λ (s : USection). in_section f c.args.prbs c.args.shape (at + 4) s rest) (sym c.section_from-s.ensures.value)
    ∙ ap (λ (t : Telling). after (Section c.section_from-s.result ∷ []) t) (c.opened.ensures.leads f c.args.shape (at + 4) rest)
