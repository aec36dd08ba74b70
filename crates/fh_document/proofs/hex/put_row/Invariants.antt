use Rattle.std.proofs.Common.{◌≡◌, ◌+◌, ◌*◌, ◌++◌, take, drop, length}
use Rattle.fh_document.specs.Hex.{joined}
use Rattle.fh_document.specs.declared.hex.TheConstants.{BYTES, ROW}
use Rattle.fh_document.proofs.hex.put_row.Given as goal

abbrev pub invariant-loop-i : goal.invariant-loop-i
invariant-loop-i l = record {
  size : length l.bytes ≡ BYTES;
  front : joined l.values ≡ take (ROW * l.row + l.i) l.bytes ++ joined (drop (2 * (ROW * l.row + l.i)) l.values);
}
