-- Numbers in decimal.
use Rattle.std.proofs.Common.{◌≡◌, ℕ, ◌+◌, ◌<◌, ◌≤◌, ◌^◌, ◌%◌, List, [], ◌∷◌, ◌++◌, length, Bool, true, ◌&&◌, nat_lt, nat_le, Option, Some, None, ap, ◌∙◌, arith}
use Rattle.std.specs.Prelude.{ℤ, pos, negsuc, decimal}
use Rattle.std.specs.Fmt.{signed_decimal}
use Rattle.std.specs.Str.Parse.{digits_value}
use Rattle.std.proofs.lemmas.Bool.Decides.{nat_tests}
use Rattle.std.proofs.lemmas.Int.{ints}
use Rattle.std.proofs.lemmas.Fmt.{decimal_by_steps, decimal_is_IsNumeral, decimal_nonempty, length-decimal-le}
use Rattle.std.proofs.lemmas.List.Folds.{list_all-append}
use Rattle.fh_document.specs.EndpointLines.{taking}
use Rattle.fh_document.specs.Proper.{IsFrom}
use Rattle.fh_document.specs.Words.{number_in}
use Rattle.fh_document.specs.Joined.{is_word}
use Rattle.fh_document.proofs.Tests.{if_true, all_weaker, took}
use Rattle.fh_base.proofs.Orders.{both_true}
use Rattle.fh_base.specs.Numbers.{is_decimal}
use Rattle.fh_document.specs.Laws.{NumbersAreRead}

pub decimal_digits : (n : ℕ) → n < 2 ^ 64 → is_decimal (decimal n) ≡ true
decimal_digits = decimal_by_steps (λ n ds. is_decimal ds ≡ true) one more
  where
    one : (n : ℕ) → n < 10 → is_decimal ((48 + n) ∷ []) ≡ true
    one n small = grind (arith, nat_tests)

    last : (n : ℕ) → is_decimal ((48 + n % 10) ∷ []) ≡ true
    last n = one (n % 10) (omega arith)

    more : (n : ℕ) (ds : List ℕ) → 10 ≤ n → is_decimal ds ≡ true → is_decimal (ds ++ ((48 + n % 10) ∷ [])) ≡ true
    more n ds some h = list_all-append (λ b. nat_le 48 b && nat_le b 57) ds ((48 + n % 10) ∷ []) ∙ both_true (is_decimal ds) _ h (last n)

pub decimal_word : (n : ℕ) → n < 2 ^ 64 → is_word (decimal n) ≡ true
decimal_word n small =
    both_true (nat_lt 0 (length (decimal n))) _ (some (length (decimal n)) (decimal_nonempty n small))
    (all_weaker (λ b. nat_le 48 b && nat_le b 57) (λ b. nat_le 33 b && nat_le b 126) (decimal n) (λ b e. wider b e) (decimal_digits n small))
  where
    some : (n : ℕ) → 0 < n → nat_lt 0 n ≡ true
    some n h = grind (arith, nat_tests)

    wider : (b : ℕ) → (nat_le 48 b && nat_le b 57) ≡ true → (nat_le 33 b && nat_le b 126) ≡ true
    wider b e = grind (arith, nat_tests)

pub number_is : NumbersAreRead
number_is low high n l h small =
    let short : n < 2 ^ 64 = omega arith in
    let size : length (decimal n) ≤ 13 = length-decimal-le 13 n (omega arith) small short in
    let value : digits_value 10 (decimal n) ≡ n = (decimal_is_IsNumeral n short).1 in
    if_true _ (Some (digits_value 10 (decimal n))) None
    (all_tests (length (decimal n)) low (digits_value 10 (decimal n)) high (is_decimal (decimal n)) (decimal_nonempty n short) size (decimal_digits n short) (omega (arith, value)) (omega (arith, value)))
    ∙ ap Some value
  where
    all_tests : (size low value high : ℕ) (b : Bool) → 0 < size → size ≤ 13 → b ≡ true → low ≤ value → value ≤ high
        → (nat_lt 0 size && (nat_le size 13 && (b && (nat_le low value && nat_le value high)))) ≡ true
    all_tests size low value high b a c d e f = grind (arith, nat_tests)

pub signed_word : (low high : ℕ) (z : ℤ) → high < 2 ^ 64 → IsFrom low high z → is_word (signed_decimal z) ≡ true
signed_word low high (pos n) most h = decimal_word n (omega (arith, ints, h.high))
signed_word low high (negsuc n) most h = absurd (omega (arith, ints, h.low))

-- a time is read as it was written
pub time_is : {B : Type 0} (low high : ℕ) (z : ℤ) (next : ℤ → Option B) → high < 10 ^ 13 → IsFrom low high z
    → taking (number_in low high (signed_decimal z)) (λ n. next (pos n)) ≡ next z
time_is low high (pos n) next most h = took (number_in low high (decimal n)) n (λ m. next (pos m)) (number_is low high n (omega (arith, ints, h.low)) (omega (arith, ints, h.high)) (omega (arith, ints, h.high)))
time_is low high (negsuc n) next most h = absurd (omega (arith, ints, h.low))
