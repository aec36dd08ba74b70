use Rattle.std.proofs.Common.{ap, ◌∙◌}
use Rattle.line_words.specs.Words.{words_of}
use Rattle.line_words.proofs.WordSteps.{kept_word, no_word}
use Rattle.line_words.proofs.words.Words.word.Goals as goal
use Rattle.fh_base.specs.Numbers.{word_at}

pub returns-then-i-self : goal.returns-then-i-self
returns-then-i-self c =
    let w = c.self.inside in
    kept_word (λ x. x.now) w.kept w.count (words_of w.line.now) c.args.i _ c.self.invariant.0 c.self.invariant.1 c.if-i-self.true c.requires
    ∙ ap (λ ws. word_at ws c.args.i) c.self.view_is

pub returns-else-i-self : goal.returns-else-i-self
returns-else-i-self c =
    let w = c.self.inside in
    no_word w.count (words_of w.line.now) c.args.i c.self.invariant.0 c.if-i-self.false ∙ ap (λ ws. word_at ws c.args.i) c.self.view_is
