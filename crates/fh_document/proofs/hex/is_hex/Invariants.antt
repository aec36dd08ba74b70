use Rattle.std.proofs.Common.{◌≡◌, take}
use Rattle.fh_document.specs.Hex.{is_hex}
use Rattle.fh_document.proofs.hex.is_hex.Given as goal

abbrev pub invariant-loop-b : goal.invariant-loop-b
invariant-loop-b l = l.all ≡ is_hex (take l.b-index l.word)
