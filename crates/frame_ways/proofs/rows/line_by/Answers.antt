use Rattle.std.proofs.Common.{ap, sym, ◌∙◌}
use Rattle.std.specs.Option.{option_copied}
use Rattle.frame_ways.proofs.Lines.{line_found, no_line}
use Rattle.frame_ways.specs.Rows.{first_place}
use Rattle.frame_ways.proofs.rows.line_by.Goals as goal

pub returns-in_err-place : goal.returns-in_err-place
returns-in_err-place c =
    let first = c.place_of.ensures ∙ ap (λ n. first_place n c.args.rows.now) c.frame_number.ensures in
    ap option_copied c.from_residual.ensures ∙ no_line c.args.side c.args.class c.args.k c.args.deliveries.now c.args.rows.now c.requires.1 (sym c.in_err-place.was ∙ first)

pub returns : goal.returns
returns c =
    let first = c.place_of.ensures ∙ ap (λ n. first_place n c.args.rows.now) c.frame_number.ensures in
    c.get.ensures ∙ line_found c.args.side c.args.class c.args.k c.args.deliveries.now c.args.rows.now c.requires.1 c.in_ok-place.place (sym c.in_ok-place.was ∙ first)
