use Rattle.std.proofs.Common.{◌≡◌, ℕ, ◌<◌, get_or}
use Rattle.du_intake.specs.Rows.{no_claim}
use Rattle.du_intake.proofs.claims.clear.Given as goal

abbrev pub invariant-loop-claim : goal.invariant-loop-claim
invariant-loop-claim l = (k : ℕ) → k < l.claim-index → get_or l.row k no_claim ≡ no_claim
