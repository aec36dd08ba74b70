use Rattle.std.proofs.Common.{◌∙◌, ap, map}
use Rattle.clap.specs.Words.{takes}
use Rattle.std.proofs.lemmas.Result.{IfErr-weaker}
use Rattle.command_words.proofs.parsing.matches_in.Goals as goal

pub returns-clause-err : goal.returns-clause-err
returns-clause-err c = IfErr-weaker c.try_get_matches_from.result _ _ (λ e h t. h (ap (λ a. takes a (map (λ w. w.now) c.args.words.now)) c.in_ok-command.ensures ∙ t)) c.try_get_matches_from.ensures.passes
