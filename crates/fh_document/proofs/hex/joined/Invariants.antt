use Rattle.std.proofs.Common.{◌≡◌, ◌*◌, ◌++◌, take, drop, length}
use Rattle.fh_document.specs.Hex.{joined}
use Rattle.fh_document.specs.declared.hex.TheConstants.{BYTES, ROW}
use Rattle.fh_document.proofs.hex.joined.Given as goal

abbrev pub invariant-loop-row : goal.invariant-loop-row
invariant-loop-row l = record {
  size : length l.bytes ≡ BYTES;
  front : joined l.values ≡ take (ROW * l.row) l.bytes ++ joined (drop (2 * (ROW * l.row)) l.values);
}
