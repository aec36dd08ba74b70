use Rattle.std.proofs.Common.{◌≡◌, ◌+◌, ◌*◌, ◌++◌, take, length}
use Rattle.fh_document.specs.LineWords.{hex_text}
use Rattle.pcap_lines.proofs.pieces.spell.Given as goal

abbrev pub invariant-loop-block : goal.invariant-loop-block
invariant-loop-block l = record {
  sum : l.place + 2 * length l.left ≡ 2 * length l.piece;
  front : take l.place l.text ++ hex_text l.left ≡ hex_text l.piece;
}

abbrev pub decreases-loop-block : goal.decreases-loop-block
decreases-loop-block l = length l.left
