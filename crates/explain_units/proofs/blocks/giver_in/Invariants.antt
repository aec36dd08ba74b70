use Rattle.explain_units.proofs.BlockLemmas.{SearchesAt}
use Rattle.explain_units.proofs.blocks.giver_in.Given as goal

abbrev pub invariant-loop-at : goal.invariant-loop-at
invariant-loop-at l = SearchesAt l.all.items l.id l.slot l.symbol l.prb l.giver l.at

abbrev pub decreases-loop-at : goal.decreases-loop-at
decreases-loop-at l = l.at
