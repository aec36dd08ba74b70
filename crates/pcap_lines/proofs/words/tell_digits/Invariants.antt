use Rattle.std.proofs.Common.{◌-◌, ◌≤◌, ◌≡◌, ◌++◌, length, drop}
use Rattle.std.specs.Prelude.{codes}
use Rattle.fh_document.specs.LineWords.{hex_text}
use Rattle.pcap_lines.proofs.Telling.{SoFar}
use Rattle.pcap_lines.proofs.words.tell_digits.Given as goal

abbrev pub invariant-loop-place : goal.invariant-loop-place
invariant-loop-place g l = record {
  within : l.place ≤ length l.bytes;
  so_far : SoFar (g.K.Sink.written l.initial.out) l.initial.owed (g.K.Sink.written l.out) l.owed (hex_text l.bytes ++ codes "\n") (hex_text (drop l.place l.bytes) ++ codes "\n");
  still : g.K.Sink.faults l.out ≡ g.K.Sink.faults l.initial.out;
  refused_still : g.K.Sink.refusals l.out ≡ g.K.Sink.refusals l.initial.out;
}

abbrev pub decreases-loop-place : goal.decreases-loop-place
decreases-loop-place g l = length l.bytes - l.place
