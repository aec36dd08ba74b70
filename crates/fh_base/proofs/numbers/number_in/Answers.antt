use Rattle.std.proofs.Common.{rules, tests, ◌≡◌, ◌≤◌, ◌^◌, ◌+◌, ◌&&◌, arith, get_or, true, nat_le}
use Rattle.std.specs.Char.{digit_value}
use Rattle.std.proofs.Math.Nat.{pow-le-pow_right}
use Rattle.std.proofs.lemmas.Str.{digit_value_digit}
use Rattle.fh_base.proofs.DigitSteps.{all_more, value_more, push_fits}
use Rattle.fh_base.proofs.numbers.number_in.Goals as goal

pub overflow_mul-n : goal.overflow_mul-n
overflow_mul-n c =
    let most : 10 ^ c.loop-b.b-index ≤ 10 ^ 17 = pow-le-pow_right (omega arith) {i = c.loop-b.b-index} {j = 17} (omega arith) in
    omega arith

pub overflow_add-n : goal.overflow_add-n
overflow_add-n c =
    let most : 10 ^ c.loop-b.b-index ≤ 10 ^ 17 = pow-le-pow_right (omega arith) {i = c.loop-b.b-index} {j = 17} (omega arith) in
    omega arith

pub loop-b-preserved : goal.loop-b-preserved
loop-b-preserved c =
    let b = get_or c.args.word.now c.loop-b.b-index 0 in
    let digit : digit_value b + 48 ≡ b = digit_value_digit b (omega arith, omega arith) in
    let is : digit_value b ≡ c.from.result = omega arith in
    let passes : (nat_le 48 b && nat_le b 57) ≡ true = search (rules, tests) in (
      value_more 10 c.args.word.now c.loop-b.b-index c.loop-b.n c.from.result (omega arith) c.loop-b.invariant.0 is,
      push_fits 10 c.loop-b.b-index c.loop-b.n c.from.result c.loop-b.invariant.1 (omega arith),
      all_more (λ b. nat_le 48 b && nat_le b 57) c.args.word.now c.loop-b.b-index (omega arith) c.loop-b.invariant.2 passes,
    )

pub returns-clause-within : goal.returns-clause-within
returns-clause-within c =
    let most : 10 ^ c.loop-b.b-index ≤ 10 ^ c.args.most = pow-le-pow_right (omega arith) {i = c.loop-b.b-index} {j = c.args.most} (omega arith) in
    (omega arith, omega arith, omega (arith, most, c.loop-b.invariant.1))
