use Rattle.std.proofs.Common.{rules, ◌≤ℤ◌, Some, subst}
use Rattle.std.specs.Prelude.{Option}
use Rattle.fh_base.specs.declared.values.Ticks.{Ticks}
use Rattle.du_intake.specs.Calls.{IsIntakeDue}
use Rattle.intake_tests.proofs.StepLemmas.{all_before}
use Rattle.intake_tests.proofs.steps.has_reported.Goals as goal

pub returns-in-Some : goal.returns-in-Some
returns-in-Some c k planned h all before =
    let due : IsIntakeDue k planned h (Some c.in-Some.due) = subst (λ (o : Option Ticks). IsIntakeDue k planned h o) c.in-Some.is (c.due.ensures k planned h all) in
    let order : c.args.at.0 ≤ℤ c.in-Some.due.0 = search rules in
    all_before k planned h c.args.at.0 c.in-Some.due due order
