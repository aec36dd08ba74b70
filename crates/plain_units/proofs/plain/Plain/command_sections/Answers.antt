use Rattle.std.proofs.Common.{◌≡◌, List, ◌∷◌, take, sym, ◌∙◌, subst}
use Rattle.std.proofs.lemmas.List.{take_all}
use Rattle.cplane_sections.specs.Message.{sections_in}
use Rattle.fh_base.specs.Lists.{onto}
use Rattle.unit_model.specs.Meetings.{commands_with}
use Rattle.plain_units.specs.Plain.{PlainHolds}
use Rattle.unit_model.specs.declared.decoded.ControlSection.{ControlSection}
use Rattle.fh_base.proofs.OntoLemmas.{onto_none, onto_more}
use Rattle.plain_units.proofs.plain.Plain.command_sections.Goals as goal

pub loop-c-init : goal.loop-c-init
loop-c-init c side n fs cs ds h =
    let P : List ControlSection → Type 0 = λ (xs : List ControlSection). PlainHolds c.args.self.now side c.args.config.now n fs xs ds in
    subst P (sym (onto_none cs)) h

pub loop-c-preserved : goal.loop-c-preserved
loop-c-preserved c side n fs cs ds h =
    let all = c.deref-c-items.result.now in
    let i = c.loop-c.c-index in
    let P : List ControlSection → Type 0 = λ (xs : List ControlSection). PlainHolds c.command_section.new.self side c.args.config.now n fs xs ds in
    let told = c.in_ok-command_section.ensures side n fs (onto cs (take i all)) ds (c.loop-c.invariant side n fs cs ds h) in
    subst P (sym (onto_more cs all i c.c-item.result c.loop-c-test.true)) (subst (λ (x : ControlSection). P (x ∷ onto cs (take i all))) c.c-item.is told)

pub returns : goal.returns
returns c side n fs cs ds h =
    let a = c.args in
    let i = c.loop-c.c-index in
    let all = c.deref-c-items.result.now in
    let read = commands_with a.receipt.ep a.receipt.endpoint a.receipt.at.0 a.head.now (sections_in a.head.now a.bytes.now) in
    let whole : take i all ≡ read = take_all i all c.loop-c-test.false ∙ c.deref-c-items.ensures.value ∙ c.in_ok-commands.ensures.value in
    let P : List ControlSection → Type 0 = λ (xs : List ControlSection). PlainHolds c.loop-c.self side a.config.now n fs (onto cs xs) ds in
    subst P whole (c.loop-c.invariant side n fs cs ds h)
