use Rattle.std.proofs.Common.{◌≡◌, ℕ, ◌+◌, ◌<◌, ◌≤◌, false, get_or, vec_capacity, vec_len}
use Rattle.std.specs.Prelude.{◌||◌}
use Rattle.unit_model.specs.Claims.{is_from}
use Rattle.slot_rings.specs.Places.{claim_in, is_in_use, is_reported, no_claims, unreported}
use Rattle.slot_rings.proofs.place.set_used_reported.Given as goal

abbrev pub invariant-loop-k : goal.invariant-loop-k
invariant-loop-k l = record {
  here : (k : ℕ) → k < l.k → is_reported l.claims.items (l.from + k) ≡ (is_reported l.fn.claims.items (l.from + k) || is_in_use (claim_in (get_or l.fn.claims.items (l.from + k) no_claims)));
  others : (i : ℕ) → is_from l.from l.k i ≡ false → is_reported l.claims.items i ≡ is_reported l.fn.claims.items i;
  claims : (i : ℕ) → unreported (get_or l.claims.items i no_claims) ≡ unreported (get_or l.fn.claims.items i no_claims);
  len : l.from + l.count ≤ vec_len l.claims;
  capacity : vec_capacity l.fn.claims ≤ vec_capacity l.claims;
}
