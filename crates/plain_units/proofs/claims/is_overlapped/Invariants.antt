use Rattle.std.proofs.Common.{◌≡◌, ◌-◌}
use Rattle.unit_model.specs.Claims.{claim_at, is_overlapped}
use Rattle.fh_base.specs.Lists.{some}
use Rattle.plain_units.proofs.ClaimLemmas.{element_overlapped}
use Rattle.plain_units.proofs.claims.is_overlapped.Given as goal

abbrev pub invariant-loop-re : goal.invariant-loop-re
invariant-loop-re l =
    is_overlapped l.id l.mask (claim_at l.accepted l.cell)
    ≡ some l.re (12 - l.re) (element_overlapped l.id l.mask (claim_at l.accepted l.cell))
