use Rattle.std.proofs.Common.{◌≡◌}
use Rattle.line_words.specs.Words.{words_of, left_length}
use Rattle.line_words.proofs.Cuts.{words_left}
use Rattle.line_words.proofs.words.first_word.Given as goal

abbrev pub invariant-words : goal.invariant-words
invariant-words l = words_left l.rest ≡ words_of l.line

abbrev pub decreases-words : goal.decreases-words
decreases-words l = left_length l.rest
