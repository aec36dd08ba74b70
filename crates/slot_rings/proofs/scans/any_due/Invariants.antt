use Rattle.std.proofs.Common.{◌≡◌, ℕ, ◌+◌, ◌<◌, false, get_or}
use Rattle.slot_rings.specs.Places.{claim_in, no_claims, is_due, is_reported}
use Rattle.slot_rings.proofs.scans.any_due.Given as goal

abbrev pub invariant-loop-n : goal.invariant-loop-n
invariant-loop-n l = record {
  all : (k : ℕ) → k < l.n → k < l.count → is_due (claim_in (get_or l.claims (l.base + k) no_claims)) (is_reported l.claims (l.base + k)) ≡ false;
}
