use Rattle.std.proofs.Common.{◌≡◌, ◌+◌, min, take, true}
use Rattle.std.specs.Str.Parse.{digits_value}
use Rattle.fh_base.specs.Numbers.{is_decimal}
use Rattle.command_words.proofs.numbers.plain_in.Given as goal

abbrev pub invariant-loop-b : goal.invariant-loop-b
invariant-loop-b l = record {
  value : l.n ≡ min (digits_value 10 (take l.b-index l.word)) (l.fn.high + 1);
  decimal : is_decimal (take l.b-index l.word) ≡ true;
}
