use Rattle.std.proofs.Common.{◌≡◌, List, ap, length, subst, sym, ◌∙◌}
use Rattle.std.specs.List.{slice_get}
use Rattle.du_intake.specs.Rows.{IsRowOf}
use Rattle.du_intake.specs.Symbols.{AreOneSection, lines_in}
use Rattle.du_intake.specs.declared.lines.UplinkLine.{UplinkLine}
use Rattle.du_intake.specs.declared.symbols.PlannedSymbol.{PlannedSymbol}
use Rattle.du_intake.proofs.ListLemmas.{some_same}
use Rattle.du_intake.proofs.NextLemmas.{ends_inside, own_line}
use Rattle.du_intake.proofs.plan.UplinkPlan.claim.Goals as goal

pub lines_from-lines-requires-clause-order : goal.lines_from-lines-requires-clause-order
lines_from-lines-requires-clause-order c = (c.requires.plan.listed.symbols c.args.index c.in-Some.symbol (sym c.in-Some.ensures)).order

pub lines_from-lines-requires-clause-within : goal.lines_from-lines-requires-clause-within
lines_from-lines-requires-clause-within c = (c.requires.plan.listed.symbols c.args.index c.in-Some.symbol (sym c.in-Some.ensures)).within

pub claim_symbol-requires-clause-inside : goal.claim_symbol-requires-clause-inside
claim_symbol-requires-clause-inside c k l at =
    let es = c.requires.plan.config.endpoints in
    let line = own_line es c.args.self.now c.in-Some.symbol k l c.requires.plan.listed.lines (ap (λ (ls : List UplinkLine). slice_get ls k) (sym c.lines_from-lines.ensures) ∙ at) in
    ends_inside l.first_prb l.prbs line.endpoint.prbs (length c.args.row.now) line.inside line.few c.requires.room

pub claim_symbol-requires-clause-twelve : goal.claim_symbol-requires-clause-twelve
claim_symbol-requires-clause-twelve c k l at =
    let es = c.requires.plan.config.endpoints in
    (own_line es c.args.self.now c.in-Some.symbol k l c.requires.plan.listed.lines (ap (λ (ls : List UplinkLine). slice_get ls k) (sym c.lines_from-lines.ensures) ∙ at)).mask

pub claim_symbol-requires-clause-one : goal.claim_symbol-requires-clause-one
claim_symbol-requires-clause-one c =
    subst (λ (ls : List UplinkLine). AreOneSection ls c.in-Some.symbol.symbol) (sym c.lines_from-lines.ensures)
    (c.requires.plan.listed.symbols c.args.index c.in-Some.symbol (sym c.in-Some.ensures)).one

pub returns-in-None-clause-claims : goal.returns-in-None-clause-claims
returns-in-None-clause-claims c s at = let none = c.in-None.ensures in absurd cc

pub returns-in-Some-clause-claims : goal.returns-in-Some-clause-claims
returns-in-Some-clause-claims c s at =
    let same : c.in-Some.symbol ≡ s = some_same (slice_get c.args.self.now.symbols.items c.args.index) c.in-Some.symbol s (sym c.in-Some.ensures) at in
    subst (λ (x : PlannedSymbol). IsRowOf (lines_in c.args.self.now.lines.items x) x.symbol c.claim_symbol.new.row) same
    (subst (λ (ls : List UplinkLine). IsRowOf ls c.in-Some.symbol.symbol c.claim_symbol.new.row) c.lines_from-lines.ensures c.claim_symbol.ensures.claims)
