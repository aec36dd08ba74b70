use Rattle.std.proofs.Common.{◌≡◌, Some, IsTrue, ap, sym, ◌∙◌, arith}
use Rattle.eaxc_map.specs.Ids.{parts_of, number_of, FitWidths}
use Rattle.eaxc_map.proofs.Spelling.{parts_fit, spelled_by_parts, parts_of_number}
use Rattle.eaxc_map.proofs.widths.Widths.join.Goals as goal

pub returns-then-not-are_within-clause-parts : goal.returns-then-not-are_within-clause-parts
returns-then-not-are_within-clause-parts c id small = (
  λ none. absurd (cc none),
  λ are.
      let within : IsTrue c.are_within.result = c.are_within.ensures.1 (parts_fit c.args.self.now id c.args.p c.args.self.now.whole (omega (arith, small)) are) in
      absurd (cc (within, c.if-not-are_within.true)),
)

pub returns-clause-parts : goal.returns-clause-parts
returns-clause-parts c id small =
    let w = c.args.self.now in
    let fit : FitWidths w c.args.p = c.are_within.ensures.0 (cc c.if-not-are_within.false) in (
      λ is. let spells : number_of w c.args.p ≡ id = cc (c.spell.ensures, is) in ap (parts_of w) (sym spells) ∙ parts_of_number w c.args.p w.whole fit,
      λ are. ap Some (c.spell.ensures ∙ spelled_by_parts w id c.args.p w.whole (omega (arith, small)) are),
    )
