use Rattle.std.proofs.Common.{◌≡◌, ◌≤◌}
use Rattle.std.specs.Io.KnownBytes.{append_known}
use Rattle.document_texts.specs.Shared.{units_text}
use Rattle.document_texts.proofs.Summing.{units_taken}
use Rattle.document_texts.proofs.sharing.share.Given as goal

abbrev pub invariant-loop-unit : goal.invariant-loop-unit
invariant-loop-unit g l = record {
  below : l.unit ≤ l.fn.count;
  written : g.K.Sink.written l.out ≡ append_known (g.K.Sink.written l.initial.out) (units_text l.doc l.fn.step l.unit);
  mixed : l.mixer ≡ units_taken l.doc l.fn.step l.unit;
  still : g.K.Sink.faults l.out ≡ g.K.Sink.faults l.initial.out;
}
