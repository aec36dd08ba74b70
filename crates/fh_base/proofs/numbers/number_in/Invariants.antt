use Rattle.std.proofs.Common.{◌≡◌, ◌^◌, ◌<◌, take, true}
use Rattle.std.specs.Str.Parse.{digits_value}
use Rattle.fh_base.specs.Numbers.{is_decimal}
use Rattle.fh_base.proofs.numbers.number_in.Given as goal

abbrev pub invariant-loop-b : goal.invariant-loop-b
invariant-loop-b l = (l.n ≡ digits_value 10 (take l.b-index l.word)) × (l.n < 10 ^ l.b-index) × (is_decimal (take l.b-index l.word) ≡ true)
