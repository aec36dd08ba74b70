use Rattle.std.proofs.Common.{◌≡◌}
use Rattle.ecpri_frames.specs.Gathering.{whole_messages}
use Rattle.ecpri_frames.specs.Left.{left_of}
use Rattle.capture_show.specs.Messages.{messages_lines}
use Rattle.capture_show.specs.Printing.{state_of}
use Rattle.capture_show.proofs.Telling.{SoFar}
use Rattle.capture_show.proofs.capture_lines.tell_messages.Given as goal

abbrev pub invariant-loop-m : goal.invariant-loop-m
invariant-loop-m g l = record {
  so_far : SoFar (state_of l.initial.printer (g.K.Sink.written l.initial.out)) (state_of l.printer (g.K.Sink.written l.out)) (messages_lines (whole_messages l.fn.frame))
      (messages_lines (left_of l.m-iterator));
  still : g.K.Sink.faults l.out ≡ g.K.Sink.faults l.initial.out;
}
