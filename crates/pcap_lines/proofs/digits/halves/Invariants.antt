use Rattle.std.proofs.Common.{◌≡◌, ◌*◌, ◌++◌, take, drop, length}
use Rattle.pcap_lines.specs.Digits.{halves}
use Rattle.pcap_lines.specs.declared.digits.TheConstants.{DIGITS}
use Rattle.pcap_lines.proofs.digits.halves.Given as goal

abbrev pub invariant-loop-i : goal.invariant-loop-i
invariant-loop-i l = record {
  size : length l.halves ≡ DIGITS;
  front : halves l.bytes ≡ take (2 * l.i) l.halves ++ halves (drop l.i l.bytes);
}
