use Rattle.std.proofs.Common.{◌≡◌, ℕ, ◌-◌, if◌then◌else◌, get_or, length}
use Rattle.unit_model.specs.Claims.{is_from}
use Rattle.du_intake.specs.Rows.{no_claim, claim_with_line}
use Rattle.du_intake.proofs.claims.claim_line.Given as goal

abbrev pub invariant-loop-prb : goal.invariant-loop-prb
invariant-loop-prb l = record {
  len : length l.row ≡ length l.fn.row;
  claims : (n : ℕ) → get_or l.row n no_claim ≡ (if is_from l.first (l.prb - l.first) n then claim_with_line l.line (get_or l.fn.row n no_claim) else get_or l.fn.row n no_claim);
}
