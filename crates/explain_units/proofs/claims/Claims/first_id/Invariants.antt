use Rattle.std.proofs.Common.{◌≡◌, ◌-◌}
use Rattle.unit_model.specs.Claims.{cell_of, claim_at}
use Rattle.unit_model.specs.Radiated.{id_from}
use Rattle.explain_units.proofs.claims.Claims.first_id.Given as goal

abbrev pub invariant-loop-element : goal.invariant-loop-element
invariant-loop-element l =
    id_from (claim_at l.self (cell_of l.a l.symbol l.prb)) 0 12 ≡ id_from (claim_at l.self (cell_of l.a l.symbol l.prb)) l.element (12 - l.element)
