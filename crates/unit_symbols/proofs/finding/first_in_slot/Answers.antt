use Rattle.std.proofs.Common.{◌≡◌, ◌∙◌, ap, arith, sym}
use Rattle.fh_base.specs.Numbering.{symbols_of}
use Rattle.fh_base.specs.declared.values.Shape.{Shape}
use Rattle.window_config.specs.declared.endpoints.EndpointConfig.{EndpointConfig}
use Rattle.unit_symbols.proofs.SearchLemmas.{none_below_more, searched_ended, searched_first}
use Rattle.unit_symbols.proofs.finding.first_in_slot.Goals as goal
use Rattle.unit_symbols.proofs.finding.first_in_slot.Goals.{then-may_fit+else-not-is_earlier+else-does_fit, else-may_fit}

pub loop-symbol-preserved : goal.loop-symbol-preserved
loop-symbol-preserved g c =
    let fits = g.T.SymbolTest.fits c.args.test.now c.args.cells.now in
    none_below_more c.args.cells.now fits c.args.place.now c.requires c.loop-symbol.symbol c.loop-symbol.invariant
    (elim c.if-may_fit.branch [
      | then-may_fit+else-not-is_earlier+else-does_fit w ↦ ap fits (sym w.start-m.ensures) ∙ sym w.does_fit.ensures ∙ w.if-does_fit.false
      | else-may_fit w ↦ c.may_fit.ensures w.if-may_fit.false
    ])

pub returns-then-not-is_earlier : goal.returns-then-not-is_earlier
returns-then-not-is_earlier g c =
    searched_ended c.args.cells.now (g.T.SymbolTest.fits c.args.test.now c.args.cells.now) c.args.place.now c.requires c.loop-symbol.symbol c.start-m.result c.args.best
    c.start-m.ensures c.loop-symbol.invariant (sym c.is_earlier.ensures ∙ c.if-not-is_earlier.true)

pub returns-then-does_fit : goal.returns-then-does_fit
returns-then-does_fit g c =
    let symbols : c.shape-symbol-end.result.symbols ≡ symbols_of c.args.place.now.ring.now.endpoint.numerology =
    ap (λ (x : Shape). x.symbols) c.shape-symbol-end.ensures ∙ ap (λ (e : EndpointConfig). symbols_of e.numerology) c.endpoint.ensures in
    searched_first c.args.cells.now (g.T.SymbolTest.fits c.args.test.now c.args.cells.now) c.args.place.now c.requires c.loop-symbol.symbol c.start-m.result c.args.best
    c.start-m.ensures (omega arith) c.loop-symbol.invariant (sym c.is_earlier.ensures ∙ c.if-not-is_earlier.false) (sym c.does_fit.ensures ∙ c.if-does_fit.true)
