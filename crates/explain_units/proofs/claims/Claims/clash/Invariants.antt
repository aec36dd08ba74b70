use Rattle.std.proofs.Common.{◌≡◌, ◌+◌, ◌-◌}
use Rattle.explain_model.specs.Judged.{clash_at, clash_in, first_at}
use Rattle.unit_model.specs.Claims.{first_prb, prb_count}
use Rattle.explain_units.proofs.claims.Claims.clash.Given as goal

abbrev pub invariant-loop-k : goal.invariant-loop-k
invariant-loop-k l =
    clash_in l.self l.a ≡ first_at (l.a.symbol + l.k) (l.a.num_symbol - l.k) (λ y. first_at (first_prb l.a) (prb_count l.a) (λ n. clash_at l.self l.a y n))
