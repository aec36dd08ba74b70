use Rattle.std.proofs.Common.{◌≡◌, ◌-◌}
use Rattle.unit_model.specs.Claims.{claim_at, is_claimed}
use Rattle.fh_base.specs.Lists.{every}
use Rattle.plain_units.proofs.ClaimLemmas.{element_claimed}
use Rattle.plain_units.proofs.claims.is_claimed.Given as goal

abbrev pub invariant-loop-re : goal.invariant-loop-re
invariant-loop-re l =
    is_claimed l.id l.mask (claim_at l.accepted l.cell)
    ≡ every l.re (12 - l.re) (element_claimed l.id l.mask (claim_at l.accepted l.cell))
