use Rattle.std.proofs.Common.{◌≡◌, ◌+◌, ◌≤◌, length, true}
use Rattle.line_words.specs.Words.{parts_left, left_length}
use Rattle.line_words.proofs.Texts.{AreTexts}
use Rattle.pictures.specs.Text.{grid_of, read_from}
use Rattle.pictures.proofs.reading.read_grid.Given as goal

abbrev pub invariant-lines : goal.invariant-lines
invariant-lines l = record {
  fits : l.n + left_length l.rest ≤ length l.text + 2;
  says : grid_of l.text ≡ read_from l.n l.reading (parts_left 10 l.rest);
  plain : l.plain ≡ true → AreTexts (parts_left 10 l.rest);
}

abbrev pub decreases-lines : goal.decreases-lines
decreases-lines l = left_length l.rest
