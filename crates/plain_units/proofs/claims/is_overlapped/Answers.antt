use Rattle.std.proofs.Common.{sym, ◌∙◌}
use Rattle.unit_model.specs.Claims.{claim_at}
use Rattle.plain_units.proofs.ClaimLemmas.{element_overlapped}
use Rattle.plain_units.proofs.TestLemmas.{some_found, some_goes, some_ends}
use Rattle.plain_units.proofs.claims.is_overlapped.Goals as goal

pub returns-then-is_element_overlapped : goal.returns-then-is_element_overlapped
returns-then-is_element_overlapped c =
    let test = element_overlapped c.args.id c.args.mask (claim_at c.args.accepted.now c.args.cell.now) in
    sym (c.loop-re.invariant ∙ some_found c.loop-re.re 12 test c.loop-re-test.true (sym c.is_element_overlapped.ensures ∙ c.if-is_element_overlapped.true))

pub loop-re-preserved : goal.loop-re-preserved
loop-re-preserved c =
    let test = element_overlapped c.args.id c.args.mask (claim_at c.args.accepted.now c.args.cell.now) in
    c.loop-re.invariant ∙ some_goes c.loop-re.re 12 test c.loop-re-test.true (sym c.is_element_overlapped.ensures ∙ c.if-is_element_overlapped.false)

pub returns : goal.returns
returns c =
    let test = element_overlapped c.args.id c.args.mask (claim_at c.args.accepted.now c.args.cell.now) in
    sym (c.loop-re.invariant ∙ some_ends c.loop-re.re 12 test c.loop-re-test.false)
