use Rattle.std.proofs.Common.{◌+◌, sym, ◌∙◌}
use Rattle.plain_units.proofs.ClaimLemmas.{symbol_overlapped, overlaps_begins}
use Rattle.plain_units.proofs.TestLemmas.{some_found, some_goes, some_ends}
use Rattle.plain_units.proofs.claims.overlaps.Goals as goal

pub loop-symbol-init : goal.loop-symbol-init
loop-symbol-init c = overlaps_begins c.args.accepted.now c.args.a.now

pub returns-then-overlaps_in : goal.returns-then-overlaps_in
returns-then-overlaps_in c =
    let a = c.args.a.now in
    sym (c.loop-symbol.invariant
    ∙ some_found c.loop-symbol.symbol (a.symbol + a.num_symbol) (symbol_overlapped c.args.accepted.now a) c.loop-symbol-test.true (sym c.overlaps_in.ensures ∙ c.if-overlaps_in.true))

pub loop-symbol-preserved : goal.loop-symbol-preserved
loop-symbol-preserved c =
    let a = c.args.a.now in
    c.loop-symbol.invariant
    ∙ some_goes c.loop-symbol.symbol (a.symbol + a.num_symbol) (symbol_overlapped c.args.accepted.now a) c.loop-symbol-test.true (sym c.overlaps_in.ensures ∙ c.if-overlaps_in.false)

pub returns : goal.returns
returns c =
    let a = c.args.a.now in
    sym (c.loop-symbol.invariant ∙ some_ends c.loop-symbol.symbol (a.symbol + a.num_symbol) (symbol_overlapped c.args.accepted.now a) c.loop-symbol-test.false)
