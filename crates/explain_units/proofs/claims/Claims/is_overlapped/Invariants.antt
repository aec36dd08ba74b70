use Rattle.std.proofs.Common.{◌≡◌, ◌-◌}
use Rattle.explain_units.specs.Claims.{is_clashing}
use Rattle.unit_model.specs.Claims.{cell_of, claim_at}
use Rattle.fh_base.specs.Lists.{some}
use Rattle.explain_units.proofs.claims.Claims.is_overlapped.Given as goal

abbrev pub invariant-loop-element : goal.invariant-loop-element
invariant-loop-element l =
    some 0 12 (is_clashing l.a (claim_at l.self (cell_of l.a l.symbol l.prb))) ≡ some l.element (12 - l.element) (is_clashing l.a (claim_at l.self (cell_of l.a l.symbol l.prb)))
