use Rattle.std.proofs.Common.{arith, ℕ, ap, ◌∙◌}
use Rattle.unit_model.specs.Claims.{claim_at}
use Rattle.unit_model.specs.Radiated.{is_used}
use Rattle.std.specs.Prelude.{Option, if◌then◌else◌}
use Rattle.unit_model.specs.declared.cells.Claim.{Claim}
use Rattle.plain_units.proofs.RadiatedLaws.{used_below_none, used_below_few, used_below_more}
use Rattle.plain_units.proofs.radiating.used_mask.Goals as goal

pub loop-re-init : goal.loop-re-init
loop-re-init c = used_below_none (claim_at c.args.claimed.now c.args.cell.now)

pub overflow_mul-mask : goal.overflow_mul-mask
overflow_mul-mask c =
    let few = used_below_few (claim_at c.args.claimed.now c.args.cell.now) c.loop-re.re c.loop-re-test.true in
    omega (arith, few, c.loop-re.invariant)

pub overflow_add-mask : goal.overflow_add-mask
overflow_add-mask c =
    let few = used_below_few (claim_at c.args.claimed.now c.args.cell.now) c.loop-re.re c.loop-re-test.true in
    omega (arith, few, c.loop-re.invariant, c.used_bit.ensures.small)

pub loop-re-preserved : goal.loop-re-preserved
loop-re-preserved c =
    used_below_more (claim_at c.args.claimed.now c.args.cell.now) c.loop-re.re c.loop-re.mask c.used_bit.result c.loop-re.invariant
    (c.used_bit.ensures.value ∙ ap (λ (o : Option Claim). let b : ℕ = if is_used o then 1 else 0 in b) c.claim_at.ensures)
