use Rattle.std.proofs.Common.{◌≡◌, ◌+◌, ◌≤◌, List, length, true}
use Rattle.line_words.specs.Words.{parts_left, left_length}
use Rattle.line_words.proofs.Texts.{AreTexts}
use Rattle.pictures.specs.declared.arrivals.Arrival.{Arrival}
use Rattle.pictures.specs.Rows.{rows_of}
use Rattle.pictures.specs.ArrivalText.{arrivals_of, read_from}
use Rattle.pictures.proofs.arrival_reading.read_arrivals.Given as goal

abbrev pub invariant-lines : goal.invariant-lines
invariant-lines l = record {
  came : List Arrival;
  counts : l.rows ≡ rows_of came;
  few : length came + left_length l.rest ≤ length l.text + 1;
  fits : l.n + left_length l.rest ≤ length l.text + 2;
  says : arrivals_of l.text ≡ read_from l.n l.reading came (parts_left 10 l.rest);
  plain : l.plain ≡ true → AreTexts (parts_left 10 l.rest);
}

abbrev pub decreases-lines : goal.decreases-lines
decreases-lines l = left_length l.rest
