use Rattle.std.proofs.Common.{◌∙◌, ap, sym, subst, arith, is_some}
use Rattle.command_words.specs.Answered.{AnswersWords}
use Rattle.command_words.specs.Words.{command_of}
use Rattle.command_words.proofs.Readings.{no_text, all_texts}
use Rattle.command_words.proofs.reading.read_words.Goals as goal
use Rattle.fh_base.proofs.CommonLemmas.{none_of}

pub returns-in-None-clause-answers : goal.returns-in-None-clause-answers
returns-in-None-clause-answers c = no_text c.args.words.now c.loop-i.i (omega arith) c.in-None.ensures

pub returns-then-is_none-clause-answers : goal.returns-then-is_none-clause-answers
returns-then-is_none-clause-answers c =
    let all = all_texts c.loop-i.texts c.args.words.now c.loop-i.i c.len-2.result (omega arith) (omega arith) c.len-2.ensures c.loop-i.invariant.1 in
    none_of _ (ap (λ ws. is_some (command_of ws)) (sym all) ∙ ap is_some (sym c.command_in.ensures) ∙ c.if-is_none.ensures)

pub returns-clause-answers : goal.returns-clause-answers
returns-clause-answers c =
    let all = all_texts c.loop-i.texts c.args.words.now c.loop-i.i c.len-2.result (omega arith) (omega arith) c.len-2.ensures c.loop-i.invariant.1 in
    subst (λ ws. AnswersWords (command_of ws) c.parsed.result) all c.parsed.ensures.answers
