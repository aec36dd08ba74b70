use Rattle.std.proofs.Common.{◌≡◌, take, map, length}
use Rattle.fh_document.specs.Hex.{value_of}
use Rattle.fh_document.specs.declared.hex.TheConstants.{DIGITS}
use Rattle.fh_document.proofs.hex.values_of.Given as goal

abbrev pub invariant-loop-i : goal.invariant-loop-i
invariant-loop-i l = record {
  size : length l.values ≡ DIGITS;
  front : take l.i l.values ≡ map value_of (take l.i l.digits);
}
