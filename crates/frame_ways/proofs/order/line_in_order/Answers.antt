use Rattle.std.proofs.Common.{ap, sym, ◌∙◌, subst}
use Rattle.std.specs.Option.{option_copied}
use Rattle.frame_ways.proofs.OrderLemmas.{IsPlace, line_at, none_behind, none_there}
use Rattle.frame_ways.proofs.order.line_in_order.Goals as goal

pub returns-in_err-line : goal.returns-in_err-line
returns-in_err-line c =
    let ds = c.args.deliveries.now in
    let place = subst (λ n. IsPlace ds n c.place_for.result) c.frame_number-number.ensures c.place_for.ensures in
    ap option_copied c.from_residual.ensures ∙ none_behind c.args.side c.args.class c.args.k ds c.place_for.result place (ap option_copied (sym c.in_err-line.was) ∙ c.get.ensures)

pub returns-then-number_of-number : goal.returns-then-number_of-number
returns-then-number_of-number c =
    let ds = c.args.deliveries.now in
    let place = subst (λ n. IsPlace ds n c.place_for.result) c.frame_number-number.ensures c.place_for.ensures in
    line_at c.args.side c.args.class c.args.k ds c.place_for.result place c.in_ok-line.line.now (sym c.get.ensures ∙ ap option_copied c.in_ok-line.was)
    (sym c.number_of.ensures ∙ c.if-number_of-number.true ∙ c.frame_number-number.ensures)

pub returns-else-number_of-number : goal.returns-else-number_of-number
returns-else-number_of-number c =
    let ds = c.args.deliveries.now in
    let place = subst (λ n. IsPlace ds n c.place_for.result) c.frame_number-number.ensures c.place_for.ensures in
    none_there c.args.side c.args.class c.args.k ds c.place_for.result place c.requires c.in_ok-line.line.now (sym c.get.ensures ∙ ap option_copied c.in_ok-line.was)
    (λ is. c.if-number_of-number.false (c.number_of.ensures ∙ is ∙ sym c.frame_number-number.ensures))
