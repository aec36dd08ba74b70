use Rattle.std.proofs.Common.{◌+◌, ◌<◌, ◌≤◌, sym, ap, ◌∙◌, arith}
use Rattle.unit_model.specs.Claims.{first_prb, prb_count, claim_at, is_overlapped}
use Rattle.plain_units.proofs.ClaimLemmas.{cell_overlapped}
use Rattle.plain_units.proofs.TestLemmas.{some_found, some_goes, some_ends}
use Rattle.plain_units.proofs.claims.overlaps_in.Goals as goal

pub returns-then-is_overlapped : goal.returns-then-is_overlapped
returns-then-is_overlapped c =
    let a = c.args.a.now in
    let inside : c.loop-prb.prb < first_prb a + prb_count a = omega (arith, c.first_prb-first.ensures, c.prb_count.ensures) in
    sym (c.loop-prb.invariant ∙ some_found c.loop-prb.prb (first_prb a + prb_count a) (cell_overlapped c.args.accepted.now a c.args.symbol) inside
    (ap (λ cell. is_overlapped a.section a.mask (claim_at c.args.accepted.now cell)) (sym c.cell_of.ensures) ∙ sym c.is_overlapped.ensures ∙ c.if-is_overlapped.true))

pub loop-prb-preserved : goal.loop-prb-preserved
loop-prb-preserved c =
    let a = c.args.a.now in
    let inside : c.loop-prb.prb < first_prb a + prb_count a = omega (arith, c.first_prb-first.ensures, c.prb_count.ensures) in
    c.loop-prb.invariant ∙ some_goes c.loop-prb.prb (first_prb a + prb_count a) (cell_overlapped c.args.accepted.now a c.args.symbol) inside
    (ap (λ cell. is_overlapped a.section a.mask (claim_at c.args.accepted.now cell)) (sym c.cell_of.ensures) ∙ sym c.is_overlapped.ensures ∙ c.if-is_overlapped.false)

pub returns : goal.returns
returns c =
    let a = c.args.a.now in
    let past : first_prb a + prb_count a ≤ c.loop-prb.prb = omega (arith, c.first_prb-first.ensures, c.prb_count.ensures) in
    sym (c.loop-prb.invariant ∙ some_ends c.loop-prb.prb (first_prb a + prb_count a) (cell_overlapped c.args.accepted.now a c.args.symbol) past)
