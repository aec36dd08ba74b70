use Rattle.std.proofs.Common.{◌≤◌, ◌≡◌, ◌+◌, ◌*◌, length}
use Rattle.capture_records.specs.Left.{left_of}
use Rattle.capture_show.specs.Messages.{records_lines, capture_lines}
use Rattle.capture_show.specs.Printing.{state_of}
use Rattle.capture_show.proofs.Telling.{SoFar}
use Rattle.capture_show.proofs.capture_lines.tell_records.Given as goal

abbrev pub invariant-loop-entry : goal.invariant-loop-entry
invariant-loop-entry g l = record {
  so_far : SoFar (state_of l.initial.printer (g.K.Sink.written l.initial.out)) (state_of l.printer (g.K.Sink.written l.out)) (capture_lines l.fn.bytes)
      (records_lines (l.number + 1) (left_of l.entry-iterator));
  few : (l.number + length (left_of l.entry-iterator)) * 13 ≤ length l.fn.bytes;
  still : g.K.Sink.faults l.out ≡ g.K.Sink.faults l.initial.out;
}
