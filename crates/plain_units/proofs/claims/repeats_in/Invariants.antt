use Rattle.std.proofs.Common.{◌≡◌, ◌+◌, ◌-◌}
use Rattle.unit_model.specs.Claims.{first_prb, prb_count}
use Rattle.fh_base.specs.Lists.{every}
use Rattle.plain_units.proofs.ClaimLemmas.{cell_claimed}
use Rattle.plain_units.proofs.claims.repeats_in.Given as goal

abbrev pub invariant-loop-prb : goal.invariant-loop-prb
invariant-loop-prb l =
    every (first_prb l.a) (prb_count l.a) (cell_claimed l.accepted l.a l.symbol)
    ≡ every l.prb (first_prb l.a + prb_count l.a - l.prb) (cell_claimed l.accepted l.a l.symbol)
