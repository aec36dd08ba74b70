use Rattle.std.proofs.Common.{◌≡◌, ◌+◌, ◌-◌}
use Rattle.explain_model.specs.Judged.{clash_at, first_at}
use Rattle.unit_model.specs.Claims.{first_prb, prb_count}
use Rattle.explain_units.proofs.claims.Claims.clash_in.Given as goal

abbrev pub invariant-loop-k : goal.invariant-loop-k
invariant-loop-k l =
    first_at (first_prb l.a) (prb_count l.a) (λ n. clash_at l.self l.a l.symbol n) ≡ first_at (first_prb l.a + l.k) (prb_count l.a - l.k) (λ n. clash_at l.self l.a l.symbol n)
