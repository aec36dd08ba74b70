use Rattle.std.proofs.Common.{◌≡◌, take, map, length}
use Rattle.pcap_lines.specs.Digits.{digit_of}
use Rattle.pcap_lines.specs.declared.digits.TheConstants.{DIGITS}
use Rattle.pcap_lines.proofs.digits.digits_of.Given as goal

abbrev pub invariant-loop-i : goal.invariant-loop-i
invariant-loop-i l = record {
  size : length l.digits ≡ DIGITS;
  front : take l.i l.digits ≡ map digit_of (take l.i l.halves);
}
