use Rattle.std.proofs.Common.{rules, ap₂, ◌≡◌, ◌∙◌}
use Rattle.clap.specs.Words.{app_of, rule_of, with_rule}
use Rattle.std.proofs.lemmas.Result.{IfOk-weaker}
use Rattle.command_words.specs.Parsed.{faults_rule, five_words, json_rule}
use Rattle.command_words.proofs.parsing.program.Goals as goal

pub returns : goal.returns
returns c =
    let json_is : rule_of c.action-json.result ≡ json_rule = search rules in
    let faults_is : rule_of c.action-faults.result ≡ faults_rule = search rules in
    let one_is : app_of c.in_ok-arg.field-0 ≡ with_rule five_words json_rule = c.in_ok-arg.ensures.shape (search rules) ∙ ap₂ with_rule c.in_ok-words.ensures json_is in
    IfOk-weaker c.arg-2.result _ _ (λ r h. h.shape (search rules) ∙ ap₂ with_rule one_is faults_is) c.arg-2.ensures
