use Rattle.std.proofs.Common.{◌≡◌, take}
use Rattle.pictures.specs.Numbers.{is_name}
use Rattle.pictures.proofs.numbers.is_name.Given as goal

abbrev pub invariant-loop-b : goal.invariant-loop-b
invariant-loop-b l = l.all ≡ is_name (take l.b-index l.word)
