use Rattle.std.proofs.Common.{◌≡◌, ◌≤ℤ◌, ◌∙◌, sym, subst, rules, ℤ}
use Rattle.intake_tests.proofs.steps.is_later.Goals as goal

pub returns : goal.returns
returns c some before =
    let same : c.args.unit.now.clock.0 ≡ c.clock.result.0 =
    some.stands.kept.clock_is ∙ sym (c.clock.ensures some.config some.planned some.history some.stands) in
    let order : c.clock.result.0 ≤ℤ c.args.at.0 = search rules in
    subst (λ (t : ℤ). t ≤ℤ c.args.at.0) (sym same) order
