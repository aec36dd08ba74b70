use Rattle.std.proofs.Common.{◌+◌, inl, inr, arith, sym, get_or}
use Rattle.slot_rings.specs.Places.{claim_in, no_claims, is_due, is_reported}
use Rattle.std.proofs.lemmas.Bool.{cases_lt}
use Rattle.slot_rings.proofs.RangeLemmas.{some_from}
use Rattle.slot_rings.proofs.scans.any_due.Goals as goal
use Rattle.unit_model.proofs.ClaimLemmas.{some_one}

pub returns-then-not-cell : goal.returns-then-not-cell
returns-then-not-cell c = sym (some_one 0 c.args.count
    (λ n. is_due (claim_in (get_or c.args.claims.now (c.args.base + n) no_claims)) (is_reported c.args.claims.now (c.args.base + n))) c.loop-n.n
    (omega arith) (omega (arith, c.loop-n-test.true, c.requires.within))
    (grind (arith, c.claims_at-cell.ensures, c.used.ensures, c.if-used-ne0.true, c.if-not-cell.true)))

pub returns : goal.returns
returns c = sym (some_from 0 c.args.count _ (λ k low high. elim (cases_lt k c.loop-n.n) [
  | inl before ↦ c.loop-n.invariant.all k before (omega (arith, high))
  | inr past ↦ c.requires.outside k (omega (arith, high)) (λ from. omega (arith, past, c.loop-n-test.false))
]))
