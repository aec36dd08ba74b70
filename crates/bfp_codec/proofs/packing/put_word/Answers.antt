use Rattle.std.proofs.Common.{◌≡◌, ℕ, ◌+◌, ◌-◌, ◌*◌, ◌/◌, ◌%◌, ◌^◌, ◌<◌, ◌≤◌, List, get_or, set, length, bit_and, refl, sym, ap, ◌∙◌, arith, get_or-set_same, get_or-set_other}
use Rattle.std.proofs.lemmas.Grind.{common_steps}
use Rattle.std.proofs.lemmas.Nat.{and_mask, shr-shr}
use Rattle.std.proofs.Math.Nat.{div-eq_of_lt}
use Rattle.bfp_codec.specs.Field.{field}
use Rattle.bfp_codec.proofs.Field.{field_more_byte, field_same}
use Rattle.bfp_codec.proofs.packing.put_word.Goals as goal

-- one more byte of a word
write_step : (xs : List ℕ) (at k n : ℕ) → at + 8 ≤ length xs → k < 8 → field xs (8 * at) (8 * k) ≡ n / 2 ^ (8 * (8 - k))
    → field (set xs (at + k) (bit_and (n / 2 ^ (8 * (7 - k))) 255)) (8 * at) (8 * (k + 1)) ≡ n / 2 ^ (8 * (8 - (k + 1)))
write_step xs at k n room low before =
    let x = n / 2 ^ (8 * (8 - (k + 1))) in
    let b = bit_and (n / 2 ^ (8 * (7 - k))) 255 in
    let ys = set xs (at + k) b in
    let place : 7 - k ≡ 8 - (k + 1) = omega arith in
    let b_is : b ≡ x % 256 = ap (λ j. bit_and (n / 2 ^ (8 * j)) 255) place ∙ and_mask x 8 in
    let sum : 8 * (8 - k) ≡ 8 * (8 - (k + 1)) + 8 = omega arith in
    let high : n / 2 ^ (8 * (8 - k)) ≡ x / 256 = ap (λ j. n / 2 ^ j) sum ∙ sym (shr-shr n (8 * (8 - (k + 1))) 8) in
    let old : field ys (8 * at) (8 * k) ≡ field xs (8 * at) (8 * k) = field_same ys xs (8 * at) (8 * k) (λ j l h. get_or-set_other xs (at + k) j b 0 (omega arith)) in
    let byte : get_or ys (at + k) 0 ≡ b = get_or-set_same xs (at + k) b 0 (omega arith) in
    let more = field_more_byte ys at k b byte (omega arith) in
    omega (arith, more, old, before, high, b_is)

none : (n : ℕ) → n < 2 ^ 64 → 0 ≡ n / 2 ^ 64
none n h = sym (div-eq_of_lt h)

pub loop-k-init : goal.loop-k-init
unfolding field
loop-k-init c = record { written = none c.args.word (omega arith); others = λ j h. refl }

pub loop-k-preserved : goal.loop-k-preserved
loop-k-preserved c = record {
  written = write_step c.loop-k.into c.args.at c.loop-k.k c.args.word (omega arith) (omega arith) c.loop-k.invariant.written;
  others = λ j h. grind (arith, common_steps, c.loop-k.invariant.others j h);
}
