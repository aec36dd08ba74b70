use Rattle.capture_show.specs.Messages.{broken_lines}
use Rattle.capture_show.specs.Printing.{state_of}
use Rattle.capture_show.proofs.Telling.{told_none}
use Rattle.capture_show.proofs.capture_lines.tell_fault.Goals as goal

pub returns-in-None-clause-told : goal.returns-in-None-clause-told
unfolding broken_lines
returns-in-None-clause-told g c = rw c.in-None.is (told_none (state_of c.args.printer.now (g.K.Sink.written c.args.out.now)))
