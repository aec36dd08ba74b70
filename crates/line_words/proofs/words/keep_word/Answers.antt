use Rattle.line_words.proofs.WordSteps.{none_more}
use Rattle.line_words.proofs.words.keep_word.Goals as goal

pub returns-else-count-lt-KEPT-clause-word : goal.returns-else-count-lt-KEPT-clause-word
returns-else-count-lt-KEPT-clause-word c = λ ws. none_more (λ x. x.now) c.args.kept.now c.args.word c.args.count ws c.told-kept c.if-count-lt-KEPT.false
