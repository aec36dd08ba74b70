-- The text of a number below 100,000 by its digits and by pairs of them, and of a number by its sign and size.
use Rattle.std.proofs.Common.{◌≡◌, ℕ, suc, ◌+◌, ◌/◌, ◌%◌, ◌<◌, ◌≤◌, List, [], ◌∷◌, ◌++◌, length, take, sym, if◌then◌else◌, ℤ, pos, negsuc, unsigned_abs, refl, ap, ◌∙◌, append_assoc, arith}
use Rattle.std.proofs.lemmas.Fmt.{decimal_digit, decimal_step}
use Rattle.std.proofs.lemmas.Bool.{lt-leb}
use Rattle.std.proofs.lemmas.List.{take-take}
use Rattle.std.proofs.Math.Seq.{take-append-add}
use Rattle.std.specs.Int.Signed.{lt_z}
use Rattle.std.specs.Fmt.{decimal, signed_decimal}

pub decimal_one : (n : ℕ) → n < 10 → decimal n ≡ (48 + n % 10) ∷ []
decimal_one n most =
    let a : n % 10 ≡ n = omega arith in
    rw (decimal_digit n most, a) refl

pub decimal_two : (n : ℕ) → 10 ≤ n → n < 100 → decimal n ≡ (48 + n / 10 % 10) ∷ (48 + n % 10) ∷ []
decimal_two n some most = rw (decimal_step n some (omega arith), decimal_one (n / 10) (omega arith)) refl

pub decimal_three : (n : ℕ) → 100 ≤ n → n < 1000 → decimal n ≡ (48 + n / 100 % 10) ∷ (48 + n / 10 % 10) ∷ (48 + n % 10) ∷ []
decimal_three n some most =
    let a : n / 10 / 10 ≡ n / 100 = omega arith in
    rw (decimal_step n (omega arith) (omega arith), decimal_two (n / 10) (omega arith) (omega arith), a) refl

pub decimal_four : (n : ℕ) → 1000 ≤ n → n < 10000 → decimal n ≡ (48 + n / 1000 % 10) ∷ (48 + n / 100 % 10) ∷ (48 + n / 10 % 10) ∷ (48 + n % 10) ∷ []
decimal_four n some most =
    let a : n / 10 / 100 ≡ n / 1000 = omega arith in
    let b : n / 10 / 10 ≡ n / 100 = omega arith in
    rw (decimal_step n (omega arith) (omega arith), decimal_three (n / 10) (omega arith) (omega arith), a, b) refl

pub decimal_five : (n : ℕ) → 10000 ≤ n → n < 100000 → decimal n ≡ (48 + n / 10000 % 10) ∷ (48 + n / 1000 % 10) ∷ (48 + n / 100 % 10) ∷ (48 + n / 10 % 10) ∷ (48 + n % 10) ∷ []
decimal_five n some most =
    let a : n / 10 / 1000 ≡ n / 10000 = omega arith in
    let b : n / 10 / 100 ≡ n / 1000 = omega arith in
    let d : n / 10 / 10 ≡ n / 100 = omega arith in
    rw (decimal_step n (omega arith) (omega arith), decimal_four (n / 10) (omega arith) (omega arith), a, b, d) refl

-- the digits of a number of four digits by pairs
pub four_digits : (n : ℕ) → 1000 ≤ n → n < 10000 → (48 + n / 100 / 10) ∷ (48 + n / 100 % 10) ∷ (48 + n % 100 / 10) ∷ (48 + n % 100 % 10) ∷ [] ≡ decimal n
four_digits n some most =
    let o : n / 100 / 10 ≡ n / 1000 % 10 = omega arith in
    let p : n % 100 / 10 ≡ n / 10 % 10 = omega arith in
    let q : n % 100 % 10 ≡ n % 10 = omega arith in
    rw (decimal_four n some most, o, p, q) refl

-- the digits of a number of five digits by pairs
pub five_digits : (n : ℕ) → 10000 ≤ n → n < 100000
    → (48 + n / 10000 % 10) ∷ (48 + n / 100 % 100 / 10) ∷ (48 + n / 100 % 100 % 10) ∷ (48 + n % 100 / 10) ∷ (48 + n % 100 % 10) ∷ [] ≡ decimal n
five_digits n some most =
    let o : n / 100 % 100 / 10 ≡ n / 1000 % 10 = omega arith in
    let p : n / 100 % 100 % 10 ≡ n / 100 % 10 = omega arith in
    let q : n % 100 / 10 ≡ n / 10 % 10 = omega arith in
    let r : n % 100 % 10 ≡ n % 10 = omega arith in
    rw (decimal_five n some most, o, p, q, r) refl

-- the sign where the number is negative, and its size
signed_parts : (z : ℤ) → (if lt_z z (pos 0) then 45 ∷ [] else []) ++ decimal (unsigned_abs z) ≡ signed_decimal z
signed_parts (pos n) = rw (lt-leb (suc n) 0 (omega arith)) refl
signed_parts (negsuc n) = refl

pub signed_digits : (front : List ℕ) (size : ℕ) (z : ℤ) → size ≡ unsigned_abs z → (front ++ (if lt_z z (pos 0) then 45 ∷ [] else [])) ++ decimal size ≡ front ++ signed_decimal z
signed_digits front size z is = rw is (append_assoc front _ _ ∙ ap (λ t. front ++ t) (signed_parts z))

-- what is before a place, and so many of the bytes written from there
pub taken_part : (front bytes new : List ℕ) (at size count : ℕ) → length front ≡ at → count ≤ size → take (at + size) new ≡ front ++ bytes → take (at + count) new ≡ front ++ take count bytes
taken_part front bytes new at size count long most is =
    sym (take-take (at + count) (at + size) new (omega arith))
    ∙ ap (take (at + count)) is
    ∙ ap (λ n. take (n + count) (front ++ bytes)) (sym long)
    ∙ take-append-add front bytes count
