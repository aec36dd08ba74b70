use Rattle.std.proofs.Common.{◌-◌, arith, sym}
use Rattle.explain_units.specs.Chains.{chain_at}
use Rattle.explain_units.proofs.ChainLemmas.{last_in_most}
use Rattle.explain_units.proofs.ClaimLemmas.{claim_begins_at, claim_found_at, claim_goes_at}
use Rattle.unit_model.specs.Claims.{cell_of}
use Rattle.explain_units.proofs.claims.claim_in.Goals as goal

pub loop-at-init : goal.loop-at-init
loop-at-init c =
    claim_begins_at c.args.all.now.items c.args.all.now.chains (cell_of c.args.a.now c.args.symbol c.args.prb) c.args.element c.slot_chain.result c.last-at.result c.requires.chains
    c.slot_chain.ensures.value c.last-at.ensures

pub returns-then-names : goal.returns-then-names
returns-then-names c =
    claim_found_at c.args.all.now.items (cell_of c.args.a.now c.args.symbol c.args.prb) c.args.element c.loop-at.at c.item-accepted.result.now c.loop-at.invariant (omega (arith, c.loop-at-test.true))
    c.item-accepted.ensures (sym c.if-names.ensures)

pub loop-at-smaller : goal.loop-at-smaller
loop-at-smaller c =
    omega (arith, c.before-at.ensures, c.loop-at-test.true, last_in_most c.args.all.now.chains (chain_at c.args.all.now.chains (c.loop-at.at - 1)) (c.loop-at.at - 1))

pub loop-at-preserved : goal.loop-at-preserved
loop-at-preserved c =
    claim_goes_at c.args.all.now.items c.args.all.now.chains (cell_of c.args.a.now c.args.symbol c.args.prb) c.args.element c.loop-at.at c.before-at.result c.item-accepted.result.now c.requires.chains
    c.loop-at.invariant (omega (arith, c.loop-at-test.true)) c.item-accepted.ensures (sym c.if-names.ensures) c.before-at.ensures
