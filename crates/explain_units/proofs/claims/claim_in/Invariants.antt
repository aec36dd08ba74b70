use Rattle.unit_model.specs.Claims.{cell_of}
use Rattle.explain_units.proofs.ClaimLemmas.{ClaimsAt}
use Rattle.explain_units.proofs.claims.claim_in.Given as goal

abbrev pub invariant-loop-at : goal.invariant-loop-at
invariant-loop-at l = ClaimsAt l.all.items (cell_of l.a l.symbol l.prb) l.element l.at

abbrev pub decreases-loop-at : goal.decreases-loop-at
decreases-loop-at l = l.at
