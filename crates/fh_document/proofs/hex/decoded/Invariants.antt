use Rattle.std.proofs.Common.{◌≡◌, ◌%◌, ◌++◌, length, true}
use Rattle.fh_document.specs.declared.hex.TheConstants.{DIGITS}
use Rattle.fh_document.specs.Hex.{is_hex, bytes_of}
use Rattle.fh_document.proofs.hex.decoded.Given as goal

abbrev pub invariant-pieces : goal.invariant-pieces
invariant-pieces l = record {
  even : length l.rest % 2 ≡ 0;
  hex : is_hex l.rest ≡ true;
  bytes : bytes_of l.word ≡ l.frame ++ bytes_of l.rest;
  size : length l.digits ≡ DIGITS;
}

abbrev pub decreases-pieces : goal.decreases-pieces
decreases-pieces l = length l.rest
