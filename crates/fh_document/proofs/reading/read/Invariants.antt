use Rattle.std.proofs.Common.{◌≡◌, ◌+◌, ◌≤◌, length, true}
use Rattle.line_words.specs.Words.{parts_left, left_length}
use Rattle.line_words.proofs.Texts.{AreTexts}
use Rattle.fh_document.specs.Document.{document_of, read_from}
use Rattle.fh_document.proofs.reading.read.Given as goal

abbrev pub invariant-lines : goal.invariant-lines
invariant-lines l = record {
  fits : l.n + left_length l.rest ≤ length l.bytes + 2;
  says : document_of l.bytes ≡ read_from l.n l.reading (parts_left 10 l.rest);
  plain : l.plain ≡ true → AreTexts (parts_left 10 l.rest);
}

abbrev pub decreases-lines : goal.decreases-lines
decreases-lines l = left_length l.rest
