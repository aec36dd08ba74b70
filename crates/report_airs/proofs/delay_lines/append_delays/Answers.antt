use Rattle.std.proofs.Common.{ap, ◌∙◌, ◌++◌, rules}
use mir.Val.{SFits, to_z, of_z}
use Rattle.std.specs.Int.{w128}
use Rattle.std.proofs.lemmas.Int.{to_z-of_z}
use Rattle.report_airs.specs.Results.{range_line}
use Rattle.report_airs.proofs.Ranges.{range_is}
use Rattle.report_airs.proofs.delay_lines.append_delays.Goals as goal

pub returns-in-Some-greatest-clause-text : goal.returns-in-Some-greatest-clause-text
returns-in-Some-greatest-clause-text c =
    let least = c.in-Some.least in
    let greatest = c.in-Some-greatest.greatest in
    let low : SFits w128 least = search rules in
    let high : SFits w128 greatest = search rules in
    let l = to_z-of_z w128 least low in
    let g = to_z-of_z w128 greatest high in
    c.append_range.ensures.text
    ∙ ap (λ t. c.args.line.now ++ t)
    (ap (λ z. range_line c.args.side c.len.result z (to_z w128 (of_z w128 greatest))) l
    ∙ ap (λ z. range_line c.args.side c.len.result least z) g
    ∙ range_is c.args.side c.len.result c.args.results.now.items least greatest c.len.ensures.now c.in-Some.ensures.now c.in-Some-greatest.ensures.now)
