use Rattle.std.proofs.Common.{◌≡◌, ◌+◌, ◌-◌}
use Rattle.unit_model.specs.Claims.{first_prb, prb_count}
use Rattle.fh_base.specs.Lists.{some}
use Rattle.plain_units.proofs.ClaimLemmas.{cell_overlapped}
use Rattle.plain_units.proofs.claims.overlaps_in.Given as goal

abbrev pub invariant-loop-prb : goal.invariant-loop-prb
invariant-loop-prb l =
    some (first_prb l.a) (prb_count l.a) (cell_overlapped l.accepted l.a l.symbol)
    ≡ some l.prb (first_prb l.a + prb_count l.a - l.prb) (cell_overlapped l.accepted l.a l.symbol)
