use Rattle.std.proofs.Common.{rules, ◌≡◌, ◌∙◌, true, false, Err, ap, subst}
use Rattle.command_words.specs.Answered.{AnswersWords}
use Rattle.command_words.specs.Words.{command_of}
use Rattle.top_call.specs.Answers.{reads}
use Rattle.top_call.proofs.Runs.{counted, made, no_command, read, unread_as, wordless}
use Rattle.top_call.proofs.running.work.Goals as goal
use Rattle.fh_base.proofs.Known.{not_long}

pub returns-in-Err-BadWords-clause-outcome : goal.returns-in-Err-BadWords-clause-outcome
returns-in-Err-BadWords-clause-outcome g c =
    no_command _ _ _ _ _ (subst (λ e. AnswersWords (command_of c.args.words.now) (Err e)) c.in-Err-BadWords.field-0-is c.in-Err-BadWords.ensures.answers)

pub returns-in-Err-NoMemory-clause-outcome : goal.returns-in-Err-NoMemory-clause-outcome
returns-in-Err-NoMemory-clause-outcome g c =
    wordless _ _ _ _ _ (subst (λ e. AnswersWords (command_of c.args.words.now) (Err e)) c.in-Err-NoMemory.field-0-is c.in-Err-NoMemory.ensures.answers)

pub returns-then-not-reads-clause-outcome : goal.returns-then-not-reads-clause-outcome
returns-then-not-reads-clause-outcome g c =
    let none : reads c.in-Ok.command ≡ false = search rules in
    made _ c.in-Ok.command _ _ _ _ _ _ _ c.in-Ok.ensures.answers none c.perform.ensures.does c.perform.ensures.few

pub returns-in-Ok-read_all-clause-outcome : goal.returns-in-Ok-read_all-clause-outcome
returns-in-Ok-read_all-clause-outcome g c =
    let does : reads c.in-Ok.command ≡ true = search rules in
    let w = c.in-Ok-read_all.ensures.whole in
    read _ c.in-Ok.command c.as_slice.result.now w.came _ _ _ _ _ _ _ _ _ c.in-Ok.ensures.answers does (c.as_slice.ensures ∙ w.ok.0)
    c.perform-in-Ok-read_all.ensures.does c.perform-in-Ok-read_all.ensures.few w.taken w.ok.1 (not_long _ _ _ _ w.too_long) c.in-Ok-read_all.ensures.cause

pub returns-in-Err-clause-outcome : goal.returns-in-Err-clause-outcome
returns-in-Err-clause-outcome g c =
    let does : reads c.in-Ok.command ≡ true = search rules in
    let w = c.in-Err.ensures.whole in
    unread_as _ c.in-Ok.command w.came _ _ _ _ _ _ c.in-Err.fault c.source_status.result c.source_status.ensures c.in-Ok.ensures.answers does
    (counted c.in-Err.fault _ _ c.in-Err.ensures.cause) (λ e. w.too_long.0 (ap Err e), λ past. let is = w.too_long.1 past in cc) w.taken
