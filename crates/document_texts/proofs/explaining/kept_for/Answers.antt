use Rattle.std.proofs.Common.{◌∙◌}
use Rattle.document_texts.proofs.PlanLemmas.{are_with_numbers, kept_fresh, lines_are}
use Rattle.document_texts.proofs.explaining.kept_for.Goals as goal

pub of-requires-clause-numbered : goal.of-requires-clause-numbered
of-requires-clause-numbered c =
    let d = c.args.document.now in
    let es = c.as_slice-endpoints.result.now in
    let ps = c.in_ok-planned.planned.items in
    are_with_numbers d.config.endpoints d.plan d.plan_lines c.in_ok-numbers.numbers.items ps
    (lines_are d.config.endpoints es d.plan ps c.as_slice-endpoints.ensures.items c.in_ok-planned.ensures) c.in_ok-numbers.ensures c.requires.document.numbered

pub returns : goal.returns
returns c =
    let d = c.args.document.now in
    let es = c.as_slice-endpoints.result.now in
    let ps = c.in_ok-planned.planned.items in
    kept_fresh d c.of.result c.make.result
    (c.of.ensures.lines ∙ lines_are d.config.endpoints es d.plan ps c.as_slice-endpoints.ensures.items c.in_ok-planned.ensures)
    (c.of.ensures.numbers ∙ c.in_ok-numbers.ensures) c.make.ensures
