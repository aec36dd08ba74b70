use Rattle.std.proofs.Common.{◌≡◌, ℕ, ◌+◌, ◌<◌, ◌≤◌, true, get_or}
use Rattle.unit_model.specs.Claims.{is_claimed}
use Rattle.slot_rings.specs.Places.{claim_in, no_claims}
use Rattle.slot_rings.proofs.judging.row_has.Given as goal

abbrev pub invariant-loop-n : goal.invariant-loop-n
invariant-loop-n l = record {
  all : (k : ℕ) → l.first ≤ k → k < l.n → is_claimed l.a.section l.a.mask (claim_in (get_or l.claims (l.base + k) no_claims)) ≡ true;
}
