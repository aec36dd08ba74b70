use Rattle.std.proofs.Common.{sym, ◌∙◌}
use Rattle.unit_model.specs.Claims.{claim_at}
use Rattle.plain_units.proofs.ClaimLemmas.{element_claimed}
use Rattle.plain_units.proofs.TestLemmas.{every_fails, every_goes, every_ends}
use Rattle.plain_units.proofs.claims.is_claimed.Goals as goal

pub returns-then-not-is_element_claimed : goal.returns-then-not-is_element_claimed
returns-then-not-is_element_claimed c =
    let test = element_claimed c.args.id c.args.mask (claim_at c.args.accepted.now c.args.cell.now) in
    sym (c.loop-re.invariant ∙ every_fails c.loop-re.re 12 test c.loop-re-test.true (sym c.is_element_claimed.ensures ∙ c.if-not-is_element_claimed.true))

pub loop-re-preserved : goal.loop-re-preserved
loop-re-preserved c =
    let test = element_claimed c.args.id c.args.mask (claim_at c.args.accepted.now c.args.cell.now) in
    c.loop-re.invariant ∙ every_goes c.loop-re.re 12 test c.loop-re-test.true (sym c.is_element_claimed.ensures ∙ c.if-not-is_element_claimed.false)

pub returns : goal.returns
returns c =
    let test = element_claimed c.args.id c.args.mask (claim_at c.args.accepted.now c.args.cell.now) in
    sym (c.loop-re.invariant ∙ every_ends c.loop-re.re 12 test c.loop-re-test.false)
