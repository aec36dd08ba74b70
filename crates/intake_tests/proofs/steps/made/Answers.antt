use Rattle.std.proofs.Common.{List, ap, rules, ◌∙◌}
use Rattle.window_config.specs.declared.endpoints.EndpointConfig.{EndpointConfig}
use Rattle.plan_model.specs.Lines.{planned}
use Rattle.plan_model.specs.Valid.{IsValid}
use Rattle.intake_tests.proofs.steps.made.Goals as goal

pub made_of-requires-clause-plan : goal.made_of-requires-clause-plan
made_of-requires-clause-plan c =
    let valid : IsValid c.args.config.now c.args.lines.now = search rules in
    record {
      plan = c.args.lines.now;
      ranges = c.requires.lines;
      valid = valid;
      is = c.deref.ensures.value ∙ c.in_ok-planned.ensures ∙ ap (λ (es : List EndpointConfig). planned es c.args.lines.now) c.as_slice.ensures.items;
    }
