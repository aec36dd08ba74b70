use Rattle.std.proofs.Common.{◌∙◌, arith, sym}
use Rattle.std.proofs.lemmas.Bool.{not-true}
use Rattle.std.proofs.lemmas.Option.{slice_get_within}
use Rattle.unit_cells.specs.Cells.{endpoints_of}
use Rattle.unit_symbols.proofs.SearchLemmas.{first_of_all, first_of_lead}
use Rattle.unit_symbols.proofs.finding.first_symbol.Goals as goal

pub returns-then-not-lead : goal.returns-then-not-lead
returns-then-not-lead g c = record {
  first = λ m is. c.leading-lead.ensures.none (not-true c.leading-lead.result.any c.if-not-lead.true) m is (slice_get_within (endpoints_of c.args.cells.now) m.ep m.endpoint is.at);
}

pub returns-then-is_passed : goal.returns-then-is_passed
returns-then-is_passed g c = record {
  first = first_of_lead c.args.cells.now (g.T.SymbolTest.fits c.args.test.now c.args.cells.now) c.leading-lead.result c.first_in_places.new.best c.leading-lead.ensures
      c.first_in_places.ensures (sym c.is_passed.ensures ∙ c.if-is_passed.true);
}

pub returns : goal.returns
returns g c = record {
  first = first_of_all c.args.cells.now (g.T.SymbolTest.fits c.args.test.now c.args.cells.now) c.leading-lead.result.ep c.endpoints-count.result c.first_in_places.new.best
      c.first_in_rings.new.best c.first_in_rings-2.new.best (omega (arith, c.endpoints-count.ensures)) c.first_in_places.ensures c.first_in_rings.ensures c.first_in_rings-2.ensures;
}
