use Rattle.std.proofs.Common.{◌+◌, ◌<◌, ◌≤◌, sym, ap, ◌∙◌, arith}
use Rattle.unit_model.specs.Claims.{first_prb, prb_count, claim_at, is_claimed}
use Rattle.plain_units.proofs.ClaimLemmas.{cell_claimed}
use Rattle.plain_units.proofs.TestLemmas.{every_fails, every_goes, every_ends}
use Rattle.plain_units.proofs.claims.repeats_in.Goals as goal

pub returns-then-not-is_claimed : goal.returns-then-not-is_claimed
returns-then-not-is_claimed c =
    let a = c.args.a.now in
    let inside : c.loop-prb.prb < first_prb a + prb_count a = omega (arith, c.first_prb-first.ensures, c.prb_count.ensures) in
    sym (c.loop-prb.invariant ∙ every_fails c.loop-prb.prb (first_prb a + prb_count a) (cell_claimed c.args.accepted.now a c.args.symbol) inside
    (ap (λ cell. is_claimed a.section a.mask (claim_at c.args.accepted.now cell)) (sym c.cell_of.ensures) ∙ sym c.is_claimed.ensures ∙ c.if-not-is_claimed.true))

pub loop-prb-preserved : goal.loop-prb-preserved
loop-prb-preserved c =
    let a = c.args.a.now in
    let inside : c.loop-prb.prb < first_prb a + prb_count a = omega (arith, c.first_prb-first.ensures, c.prb_count.ensures) in
    c.loop-prb.invariant ∙ every_goes c.loop-prb.prb (first_prb a + prb_count a) (cell_claimed c.args.accepted.now a c.args.symbol) inside
    (ap (λ cell. is_claimed a.section a.mask (claim_at c.args.accepted.now cell)) (sym c.cell_of.ensures) ∙ sym c.is_claimed.ensures ∙ c.if-not-is_claimed.false)

pub returns : goal.returns
returns c =
    let a = c.args.a.now in
    let past : first_prb a + prb_count a ≤ c.loop-prb.prb = omega (arith, c.first_prb-first.ensures, c.prb_count.ensures) in
    sym (c.loop-prb.invariant ∙ every_ends c.loop-prb.prb (first_prb a + prb_count a) (cell_claimed c.args.accepted.now a c.args.symbol) past)
