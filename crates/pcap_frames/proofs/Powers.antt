-- Powers of ten.
use Rattle.std.proofs.Common.{◌≡◌, ℕ, ◌+◌, ◌-◌, ◌*◌, ◌/◌, ◌^◌, ◌<◌, ◌≤◌, arith, sym, ap, ◌∙◌}
use Rattle.std.proofs.Math.Nat.{pow-le-pow_right, one-le-pow, div-eq_of_lt, mul_assoc, mul-div_cancel, mul-le-mul_left}
use Rattle.std.proofs.lemmas.Nat.{pow-add}

-- an exponent under 29 gives a power that 128 bits hold
pub fits : (e : ℕ) → e < 29 → 10 ^ e < 2 ^ 128
fits e h =
    let most : e ≤ 28 = omega (arith, h) in
    let less : 10 ^ e ≤ 10 ^ 28 = pow-le-pow_right (omega arith) most in
    omega (arith, less)

pub some : (e : ℕ) → 0 < 10 ^ e
some e =
    let one : 1 ≤ 10 ^ e = one-le-pow e 10 (omega arith) in
    omega (arith, one)

-- from 10 ^ 29 on each quotient of 64 bits of seconds is 0
pub none : (e n : ℕ) → 29 ≤ e → n < 2 ^ 64 → 0 ≡ n * 10 ^ 9 / 10 ^ e
none e n h small =
    let more : 10 ^ 29 ≤ 10 ^ e = pow-le-pow_right (omega arith) h in
    let less : n * 10 ^ 9 < 10 ^ e = omega (arith, more, small) in
    sym (div-eq_of_lt less)

-- a unit that is not shorter than a nanosecond has 10 ^ (9 - e) of them
pub scale_fits : (e : ℕ) → e ≤ 9 → 10 ^ (9 - e) ≤ 10 ^ 9
scale_fits e h =
    let most : 9 - e ≤ 9 = omega arith in
    pow-le-pow_right (omega arith) most

pub whole : (e n : ℕ) → e ≤ 9 → n * 10 ^ (9 - e) ≡ n * 10 ^ 9 / 10 ^ e
whole e n h =
    let sum : (9 - e) + e ≡ 9 = omega (arith, h) in
    let parts : 10 ^ 9 ≡ 10 ^ (9 - e) * 10 ^ e = sym (ap (λ m. 10 ^ m) sum) ∙ pow-add 10 (9 - e) e in
    let grouped : n * 10 ^ 9 ≡ n * 10 ^ (9 - e) * 10 ^ e = ap (λ m. n * m) parts ∙ sym (mul_assoc n (10 ^ (9 - e)) (10 ^ e)) in
    sym (ap (λ m. m / 10 ^ e) grouped ∙ mul-div_cancel (n * 10 ^ (9 - e)) (some e))

pub small_product : (n m : ℕ) → n < 2 ^ 64 → m ≤ 10 ^ 9 → n * m < 2 ^ 94
small_product n m h k =
    let most : n * m ≤ n * 10 ^ 9 = mul-le-mul_left n k in
    omega (arith, most, h)
