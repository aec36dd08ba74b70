use Rattle.std.proofs.Common.{◌≡◌, ◌++◌, ℕ, List}
use Rattle.std.specs.List.{flat_map}
use Rattle.line_words.specs.Words.{parts_left, left_length}
use Rattle.fh_base.specs.Owed.{Carried}
use Rattle.pictures.specs.Looks.{line_text}
use Rattle.pictures.specs.Picture.{cells_text}
use Rattle.pictures.proofs.drawing.tell_lines.Given as goal

abbrev pub invariant-lines : goal.invariant-lines
invariant-lines g l = record {
  told : List ℕ;
  carried : Carried (g.K.Sink.written l.initial.out) l.initial.owed told (g.K.Sink.written l.out) l.owed;
  says : told ++ flat_map (line_text l.span l.endpoints) (parts_left 10 l.rest) ≡ cells_text l.span l.endpoints l.text;
  still : g.K.Sink.faults l.out ≡ g.K.Sink.faults l.initial.out;
}

abbrev pub decreases-lines : goal.decreases-lines
decreases-lines g l = left_length l.rest
