use Rattle.std.proofs.Common.{◌-◌, arith}
use Rattle.explain_units.specs.Chains.{chain_at}
use Rattle.explain_units.proofs.BlockLemmas.{search_begins_at, search_goes_at}
use Rattle.explain_units.proofs.ChainLemmas.{last_in_most}
use Rattle.explain_units.proofs.blocks.giver_in.Goals as goal

pub loop-at-init : goal.loop-at-init
loop-at-init c =
    search_begins_at c.args.all.now.items c.args.all.now.chains c.args.id c.args.slot.now c.args.symbol c.args.prb c.chain_of.result c.last-at.result c.requires.chains c.chain_of.ensures.value
    c.last-at.ensures

pub loop-at-smaller : goal.loop-at-smaller
loop-at-smaller c =
    omega (arith, c.before-at.ensures, c.loop-at-test.true, last_in_most c.args.all.now.chains (chain_at c.args.all.now.chains (c.loop-at.at - 1)) (c.loop-at.at - 1))

pub loop-at-preserved : goal.loop-at-preserved
loop-at-preserved c =
    search_goes_at c.args.all.now.items c.args.all.now.chains c.args.id c.args.slot.now c.args.symbol c.args.prb c.loop-at.giver c.earlier_giver-giver.result c.loop-at.at c.before-at.result
    c.item-given.result.now c.requires.chains c.loop-at.invariant (omega (arith, c.loop-at-test.true)) c.item-given.ensures c.earlier_giver-giver.ensures c.before-at.ensures
