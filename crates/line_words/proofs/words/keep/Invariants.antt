use Rattle.std.proofs.Common.{◌≡◌, ◌+◌, ◌≤◌, ◌++◌, length, map, take}
use Rattle.line_words.specs.declared.words.TheConstants.{KEPT}
use Rattle.line_words.specs.Words.{words_of, left_length}
use Rattle.line_words.proofs.Cuts.{words_left}
use Rattle.line_words.proofs.words.keep.Given as goal

abbrev pub invariant-words : goal.invariant-words
invariant-words l = record {
  counted : l.count + length (words_left l.rest) ≡ length (words_of l.line);
  fits : l.count + left_length l.rest ≤ length l.line + 1;
  kept : take KEPT (map (λ x. x.now) (take l.count l.kept) ++ words_left l.rest) ≡ take KEPT (words_of l.line);
  size : length l.kept ≡ KEPT;
}

abbrev pub decreases-words : goal.decreases-words
decreases-words l = left_length l.rest
