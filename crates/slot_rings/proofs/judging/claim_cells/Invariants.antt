use Rattle.std.proofs.Common.{◌≡◌, ℕ, ◌+◌, ◌-◌, ◌*◌, ◌<◌, ◌≤◌, get_or, vec_capacity, if◌then◌else◌, ◌&&◌, Some}
use Rattle.unit_model.specs.Claims.{in_mask, is_from, claim_of, first_prb, prb_count}
use Rattle.slot_rings.specs.Places.{claim_in, is_reported, no_claims}
use Rattle.slot_rings.specs.Written.{AreBlankElsewhere}
use Rattle.slot_rings.proofs.judging.claim_cells.Given as goal

abbrev pub invariant-loop-symbol : goal.invariant-loop-symbol
invariant-loop-symbol l = record {
  capacity : vec_capacity l.fn.claims ≤ vec_capacity l.claims;
  blank : AreBlankElsewhere no_claims l.a.endpoint.prbs l.spans l.claims.items;
  reported : (k : ℕ) → is_reported l.claims.items k ≡ is_reported l.fn.claims.items k;
  each : (symbol prb re : ℕ) → prb < l.a.endpoint.prbs → re < 12
      → claim_in (get_or l.claims.items (symbol * l.a.endpoint.prbs + prb) no_claims) re
      ≡ (if (is_from l.a.symbol (l.symbol - l.first) symbol && is_from (first_prb l.a) (prb_count l.a) prb) && in_mask l.a.mask re then Some (claim_of l.a)
      else claim_in (get_or l.fn.claims.items (symbol * l.a.endpoint.prbs + prb) no_claims) re);
}
