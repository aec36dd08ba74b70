use Rattle.std.proofs.Common.{◌∙◌, sym, subst, Option}
use Rattle.fh_base.specs.declared.values.Ticks.{Ticks}
use Rattle.unit_symbols.specs.Searches.{InPlace}
use Rattle.unit_symbols.specs.Symbols.{FitsFrom}
use Rattle.unit_symbols.proofs.SearchLemmas.{searched_from}
use Rattle.unit_symbols.proofs.finding.first_in_place.Goals as goal

pub returns-then-is_passed : goal.returns-then-is_passed
returns-then-is_passed g c =
    let v = c.args.cells.now in
    let fits = g.T.SymbolTest.fits c.args.test.now v in
    searched_from v fits (InPlace v c.args.ep c.args.index) c.args.best.now c.args.ep c.in-Some.start (λ m o. o.0)
    (subst (λ (o : Option Ticks). FitsFrom v fits (InPlace v c.args.ep c.args.index) o) c.in-Some.is c.earliest_at.ensures)
    (sym c.is_passed.ensures ∙ c.if-is_passed.true)
