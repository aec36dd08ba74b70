use Rattle.std.proofs.Common.{◌≡◌, take}
use Rattle.pictures.specs.Numbers.{is_lower_hex}
use Rattle.pictures.proofs.numbers.is_lower_hex.Given as goal

abbrev pub invariant-loop-b : goal.invariant-loop-b
invariant-loop-b l = l.all ≡ is_lower_hex (take l.b-index l.word)
