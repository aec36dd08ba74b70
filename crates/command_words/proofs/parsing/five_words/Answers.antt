use Rattle.std.proofs.Common.{rules, ap, ap₂, codes, ◌≡◌, ◌∙◌, true}
use Rattle.clap.specs.Words.{App, app_of, new_app, new_rule, rule_of, with_rule}
use Rattle.clap.specs.Simple.{app_of_fields}
use Rattle.clap.specs.declared.builder.Command.TheViews.{out-Command as fields_of}
use Rattle.std.proofs.lemmas.Result.{IfOk-weaker}
use Rattle.command_words.specs.Parsed.{bare}
use Rattle.command_words.proofs.parsing.five_words.Goals as goal

pub returns : goal.returns
returns c =
    let word_is : rule_of c.new-word.result ≡ new_rule (codes "word") = search rules in
    let first_is : rule_of c.new-first.result ≡ new_rule (codes "first") = search rules in
    let second_is : rule_of c.new-second.result ≡ new_rule (codes "second") = search rules in
    let third_is : rule_of c.new-third.result ≡ new_rule (codes "third") = search rules in
    let fourth_is : rule_of c.new-fourth.result ≡ new_rule (codes "fourth") = search rules in
    let e1 : app_of c.no_binary_name.result ≡ app_of_fields (record (fields_of c.new.result) { no_binary_name = true }) = ap app_of_fields c.no_binary_name.ensures in
    let e2 : app_of c.disable_help_flag.result ≡ app_of_fields (record (fields_of c.no_binary_name.result) { disable_help_flag = true }) = ap app_of_fields c.disable_help_flag.ensures in
    let e3 : app_of c.disable_version_flag-bare.result ≡ app_of_fields (record (fields_of c.disable_help_flag.result) { disable_version_flag = true }) = ap app_of_fields c.disable_version_flag-bare.ensures in
    let bare_is : app_of c.disable_version_flag-bare.result ≡ bare (app_of c.new.result) =
    e3 ∙ (ap (λ (a : App). record a { top = record a.top { disable_version_flag = true } }) (e2 ∙ ap (λ (a : App). record a { top = record a.top { disable_help_flag = true } }) e1)) in
    let start_is : app_of c.disable_version_flag-bare.result ≡ bare (new_app (codes "fronthaul")) = bare_is ∙ ap bare c.new.ensures.app in
    let one_is : app_of c.in_ok-arg.field-0 ≡ with_rule (bare (new_app (codes "fronthaul"))) (new_rule (codes "word")) = c.in_ok-arg.ensures.shape (search rules) ∙ ap₂ with_rule start_is word_is in
    let two_is : app_of c.in_ok-arg-2.field-0 ≡ with_rule (with_rule (bare (new_app (codes "fronthaul"))) (new_rule (codes "word"))) (new_rule (codes "first")) = c.in_ok-arg-2.ensures.shape (search rules) ∙ ap₂ with_rule one_is first_is in
    let three_is : app_of c.in_ok-arg-3.field-0 ≡ with_rule (with_rule (with_rule (bare (new_app (codes "fronthaul"))) (new_rule (codes "word"))) (new_rule (codes "first"))) (new_rule (codes "second")) = c.in_ok-arg-3.ensures.shape (search rules) ∙ ap₂ with_rule two_is second_is in
    let four_is : app_of c.in_ok-arg-4.field-0 ≡ with_rule (with_rule (with_rule (with_rule (bare (new_app (codes "fronthaul"))) (new_rule (codes "word"))) (new_rule (codes "first"))) (new_rule (codes "second"))) (new_rule (codes "third")) = c.in_ok-arg-4.ensures.shape (search rules) ∙ ap₂ with_rule three_is third_is in
    IfOk-weaker c.arg-5.result _ _ (λ r h. h.shape (search rules) ∙ ap₂ with_rule four_is fourth_is) c.arg-5.ensures
