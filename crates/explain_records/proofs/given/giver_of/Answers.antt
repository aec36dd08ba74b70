-- The first that passes.
use Rattle.std.proofs.Common.{sym, ◌∙◌}
use Rattle.explain_model.specs.SilentReasons.{gives_prb, giver_of}
use Rattle.explain_records.proofs.NearestLemmas.{find_all, find_here, find_step}
use Rattle.explain_records.proofs.given.giver_of.Goals as goal

pub loop-r-preserved : goal.loop-r-preserved
loop-r-preserved c = find_step (gives_prb c.args.key c.args.prb) c.args.given.now c.loop-r.r-index _ c.loop-r-test.true c.loop-r.invariant (sym c.gives_prb.ensures ∙ c.if-gives_prb.false)

pub returns-then-gives_prb : goal.returns-then-gives_prb
unfolding giver_of
returns-then-gives_prb c = (find_here (gives_prb c.args.key c.args.prb) c.args.given.now c.loop-r.r-index _ c.loop-r-test.true c.loop-r.invariant (sym c.gives_prb.ensures ∙ c.if-gives_prb.true))

pub returns : goal.returns
unfolding giver_of
returns c = (sym (find_all (gives_prb c.args.key c.args.prb) c.args.given.now c.loop-r.r-index c.loop-r-test.false c.loop-r.invariant))
