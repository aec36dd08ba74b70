-- Digits, and pieces of them.
use Rattle.std.proofs.Common.{◌≡◌, ℕ, suc, ◌+◌, ◌*◌, ◌/◌, ◌%◌, List, [], ◌∷◌, ◌++◌, length, take, get_or, map, arith, ap, sym, ◌∙◌, refl, Bool, true, false, ◌&&◌, nat_lt, append_assoc, Some, w16}
use Rattle.std.specs.Int.{from_be_bytes}
use Rattle.std.specs.Char.{digit_value}
use Rattle.std.proofs.lemmas.Bool.{and_parts}
use Rattle.std.proofs.lemmas.Bool.Decides.{nat_tests}
use Rattle.std.proofs.lemmas.List.Folds.{list_all-append}
use Rattle.fh_document.specs.Hex.{is_hex, hex_of, value_of, joined, bytes_of}

abbrev pub is_digit : ℕ → Bool
is_digit b = nat_lt (digit_value b) 16

-- ---- a digit

digit_is : (b : ℕ) → is_digit b ≡ true → value_of b ≡ digit_value b
digit_is b is = grind (arith, nat_tests)

byte_is : (a b : ℕ) → is_digit a ≡ true → is_digit b ≡ true → value_of a % 16 * 16 + value_of b % 16 ≡ 16 * digit_value a + digit_value b
byte_is a b one two = grind (arith, nat_tests, digit_is a one, digit_is b two)

-- ---- four digits

all_four : (a b c d : Bool) → (a && (b && (c && (d && true)))) ≡ true → (a ≡ true) × (b ≡ true) × (c ≡ true) × (d ≡ true)
all_four true true true true e = (refl, refl, refl, refl)
all_four true true true false e = absurd (cc e)
all_four true true false d e = absurd (cc e)
all_four true false c d e = absurd (cc e)
all_four false b c d e = absurd (cc e)

pub four_digits : (word : List ℕ) (n a b c d : ℕ) → length word ≡ 4 → is_hex word ≡ true
    → a ≡ value_of (get_or word 0 0) → b ≡ value_of (get_or word 1 0) → c ≡ value_of (get_or word 2 0) → d ≡ value_of (get_or word 3 0)
    → n ≡ from_be_bytes w16 ((a % 16 * 16 + b % 16) ∷ (c % 16 * 16 + d % 16) ∷ []) → Some n ≡ hex_of 4 word
four_digits [] n a b c d e hex ia ib ic id is = absurd (cc e)
four_digits (p ∷ []) n a b c d e hex ia ib ic id is = absurd (omega (arith, e))
four_digits (p ∷ q ∷ []) n a b c d e hex ia ib ic id is = absurd (omega (arith, e))
four_digits (p ∷ q ∷ r ∷ []) n a b c d e hex ia ib ic id is = absurd (omega (arith, e))
four_digits (p ∷ q ∷ r ∷ s ∷ x ∷ rest) n a b c d e hex ia ib ic id is = absurd (omega (arith, e))
four_digits (p ∷ q ∷ r ∷ s ∷ []) n a b c d e hex ia ib ic id is =
    let each = all_four (is_digit p) (is_digit q) (is_digit r) (is_digit s) hex in
    let high = byte_is p q each.0 each.1 in
    let low = byte_is r s each.2 each.3 in
    rw hex (ap Some (omega (arith, is, ia, ib, ic, id, high, low)))

-- ---- a piece of digits

-- the bytes of a piece are the front of those of an array that begins with it
pub front_bytes : (piece behind : List ℕ) → length piece % 2 ≡ 0 → is_hex piece ≡ true
    → take (length piece / 2) (joined (map value_of (piece ++ behind))) ≡ bytes_of piece
front_bytes [] behind even hex = refl
front_bytes (a ∷ []) behind even hex = absurd (omega arith)
front_bytes (a ∷ b ∷ xs) behind even hex =
    let one = and_parts (is_digit a) (is_digit b && is_hex xs) hex in
    let two = and_parts (is_digit b) (is_hex xs) one.1 in
    let half : length (a ∷ b ∷ xs) / 2 ≡ suc (length xs / 2) = omega arith in
    ap (λ n. take n (joined (map value_of (a ∷ b ∷ xs ++ behind)))) half
    ∙ ap (λ x. x ∷ take (length xs / 2) (joined (map value_of (xs ++ behind)))) (byte_is a b one.0 two.0)
    ∙ ap (λ r. (16 * digit_value a + digit_value b) ∷ r) (front_bytes xs behind (omega arith) two.1)

bytes_of-append : (xs ys : List ℕ) → length xs % 2 ≡ 0 → bytes_of (xs ++ ys) ≡ bytes_of xs ++ bytes_of ys
bytes_of-append [] ys e = refl
bytes_of-append (a ∷ []) ys e = absurd (omega arith)
bytes_of-append (a ∷ b ∷ xs) ys e = ap (λ r. (16 * digit_value a + digit_value b) ∷ r) (bytes_of-append xs ys (omega arith))

pub hex_parts : (rest piece behind : List ℕ) → is_hex rest ≡ true → rest ≡ piece ++ behind → (is_hex piece ≡ true) × (is_hex behind ≡ true)
hex_parts rest piece behind hex parts =
    and_parts (is_hex piece) (is_hex behind) (sym (list_all-append is_digit piece behind) ∙ ap is_hex (sym parts) ∙ hex)

pub bytes_behind : (word rest piece behind frame next : List ℕ) → bytes_of word ≡ frame ++ bytes_of rest → rest ≡ piece ++ behind → length piece % 2 ≡ 0
    → next ≡ frame ++ bytes_of piece → bytes_of word ≡ next ++ bytes_of behind
bytes_behind word rest piece behind frame next same parts even more =
    same
    ∙ ap (λ r. frame ++ bytes_of r) parts
    ∙ ap (λ r. frame ++ r) (bytes_of-append piece behind even)
    ∙ sym (append_assoc frame (bytes_of piece) (bytes_of behind))
    ∙ ap (λ f. f ++ bytes_of behind) (sym more)
