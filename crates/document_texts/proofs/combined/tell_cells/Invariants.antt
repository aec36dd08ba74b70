use Rattle.std.proofs.Common.{take, ◌≡◌}
use Rattle.std.specs.List.{flat_map}
use Rattle.fh_base.specs.Owed.{Carried}
use Rattle.document_texts.specs.Lines.{mixed_text}
use Rattle.document_texts.proofs.combined.tell_cells.Given as goal

abbrev pub invariant-loop-m : goal.invariant-loop-m
invariant-loop-m g l = record {
  carried : Carried (g.K.Sink.written l.initial.out) l.initial.owed (flat_map mixed_text (take l.m-index l.cells)) (g.K.Sink.written l.out) l.owed;
  still : g.K.Sink.faults l.out ≡ g.K.Sink.faults l.initial.out;
  refused_still : g.K.Sink.refusals l.out ≡ g.K.Sink.refusals l.initial.out;
}
