use Rattle.std.proofs.Common.{map, ◌≡◌}
use Rattle.cplane_sections.specs.Header.{kind_of}
use Rattle.cplane_sections.specs.Left.{left_of}
use Rattle.capture_show.specs.Messages.{section_line, section_lines}
use Rattle.capture_show.specs.Printing.{state_of}
use Rattle.capture_show.proofs.Telling.{SoFar}
use Rattle.capture_show.proofs.capture_lines.tell_sections.Given as goal

abbrev pub invariant-loop-section : goal.invariant-loop-section
invariant-loop-section g l = record {
  so_far : SoFar (state_of l.initial.printer (g.K.Sink.written l.initial.out)) (state_of l.printer (g.K.Sink.written l.out)) (section_lines l.head l.fn.bytes)
      (map (section_line (kind_of l.head.body)) (left_of l.section-iterator));
  still : g.K.Sink.faults l.out ≡ g.K.Sink.faults l.initial.out;
}
