use Rattle.std.proofs.Common.{◌+◌, sym, ◌∙◌}
use Rattle.plain_units.proofs.ClaimLemmas.{symbol_claimed, repeats_begins}
use Rattle.plain_units.proofs.TestLemmas.{every_fails, every_goes, every_ends}
use Rattle.plain_units.proofs.claims.repeats.Goals as goal

pub loop-symbol-init : goal.loop-symbol-init
loop-symbol-init c = repeats_begins c.args.accepted.now c.args.a.now

pub returns-then-not-repeats_in : goal.returns-then-not-repeats_in
returns-then-not-repeats_in c =
    let a = c.args.a.now in
    sym (c.loop-symbol.invariant
    ∙ every_fails c.loop-symbol.symbol (a.symbol + a.num_symbol) (symbol_claimed c.args.accepted.now a) c.loop-symbol-test.true (sym c.repeats_in.ensures ∙ c.if-not-repeats_in.true))

pub loop-symbol-preserved : goal.loop-symbol-preserved
loop-symbol-preserved c =
    let a = c.args.a.now in
    c.loop-symbol.invariant
    ∙ every_goes c.loop-symbol.symbol (a.symbol + a.num_symbol) (symbol_claimed c.args.accepted.now a) c.loop-symbol-test.true (sym c.repeats_in.ensures ∙ c.if-not-repeats_in.false)

pub returns : goal.returns
returns c =
    let a = c.args.a.now in
    sym (c.loop-symbol.invariant ∙ every_ends c.loop-symbol.symbol (a.symbol + a.num_symbol) (symbol_claimed c.args.accepted.now a) c.loop-symbol-test.false)
