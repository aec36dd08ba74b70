use Rattle.std.proofs.Common.{rules, tests, ◌≡◌, ◌+◌, ◌∙◌, ◌&&◌, arith, get_or, true, nat_le}
use Rattle.std.specs.Char.{digit_value}
use Rattle.std.proofs.lemmas.Str.{digit_value_digit}
use Rattle.fh_base.proofs.DigitSteps.{all_more}
use Rattle.command_words.proofs.Capped.{capped_more}
use Rattle.command_words.proofs.numbers.plain_in.Goals as goal

pub loop-b-preserved : goal.loop-b-preserved
loop-b-preserved c =
    let b = get_or c.args.word.now c.loop-b.b-index 0 in
    let digit : digit_value b + 48 ≡ b = digit_value_digit b (omega arith, omega arith) in
    let is : digit_value b ≡ c.from.result = omega arith in
    let passes : (nat_le 48 b && nat_le b 57) ≡ true = search (rules, tests) in
    record {
      value = c.min-n.ensures ∙ capped_more c.args.word.now c.loop-b.b-index c.loop-b.n c.from.result (c.args.high + 1) (omega arith) c.loop-b.invariant.value is;
      decimal = all_more (λ b. nat_le 48 b && nat_le b 57) c.args.word.now c.loop-b.b-index (omega arith) c.loop-b.invariant.decimal passes;
    }
