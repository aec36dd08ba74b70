use Rattle.std.proofs.Common.{◌+◌, arith, sym, get_or}
use Rattle.unit_model.specs.Claims.{first_prb, prb_count, is_overlapped}
use Rattle.slot_rings.specs.Places.{claim_in, no_claims}
use Rattle.slot_rings.proofs.RangeLemmas.{some_from}
use Rattle.slot_rings.proofs.judging.row_clashes.Goals as goal
use Rattle.unit_model.proofs.ClaimLemmas.{some_one}

pub returns-then-clashes : goal.returns-then-clashes
returns-then-clashes c = sym (some_one (first_prb c.args.a.now) (prb_count c.args.a.now)
    (λ n. is_overlapped c.args.a.now.section c.args.a.now.mask (claim_in (get_or c.args.claims.now (c.args.base + n) no_claims))) c.loop-n.n
    (grind (arith, c.first_prb-first.ensures, c.loop-n.auto.n)) (grind (arith, c.first_prb-first.ensures, c.prb_count.ensures, c.loop-n-test.true))
    (grind (arith, c.claims_at.ensures, c.clashes.ensures, c.if-clashes.true)))

pub returns : goal.returns
returns c = sym (some_from (first_prb c.args.a.now) (prb_count c.args.a.now) _
    (λ k low high. c.loop-n.invariant.all k (grind (arith, c.first_prb-first.ensures)) (grind (arith, c.first_prb-first.ensures, c.prb_count.ensures, c.loop-n-test.false))))
