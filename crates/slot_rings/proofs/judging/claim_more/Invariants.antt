use Rattle.std.proofs.Common.{◌≡◌, ℕ, ◌+◌, ◌-◌, ◌<◌, ◌≤◌, false, get_or, vec_len, vec_capacity, if◌then◌else◌, ◌&&◌, Some}
use Rattle.unit_model.specs.Claims.{in_mask, is_from, claim_of}
use Rattle.slot_rings.specs.Places.{claim_in, is_reported, no_claims}
use Rattle.slot_rings.proofs.judging.claim_more.Given as goal

abbrev pub invariant-loop-k : goal.invariant-loop-k
invariant-loop-k l = record {
  len : l.from + l.count ≤ vec_len l.claims;
  capacity : vec_capacity l.fn.claims ≤ vec_capacity l.claims;
  reported : (k : ℕ) → is_reported l.claims.items k ≡ is_reported l.fn.claims.items k;
  each : (k re : ℕ) → re < 12 → claim_in (get_or l.claims.items k no_claims) re
      ≡ (if is_from l.from (l.k - l.from) k && in_mask l.a.mask re then Some (claim_of l.a) else claim_in (get_or l.fn.claims.items k no_claims) re);
  kept : (k : ℕ) → is_from l.from (l.k - l.from) k ≡ false → get_or l.claims.items k no_claims ≡ get_or l.fn.claims.items k no_claims;
}
