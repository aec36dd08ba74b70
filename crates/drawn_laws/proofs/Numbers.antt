-- Numbers and hexadecimal digits as words, read again.
use Rattle.std.proofs.Common.{◌≡◌, ℕ, zero, suc, ◌+◌, ◌/◌, ◌%◌, ◌^◌, ◌<◌, ◌≤◌, List, [], ◌∷◌, ◌++◌, length, drop, get_or, Bool, true, false, ◌&&◌, ◌||◌, ◌==◌, nat_le, nat_lt, ℤ, pos, negsuc, ◌<ℤ◌, refl, sym, ap, ap₂, ◌∙◌, arith, length-append, codes, decimal}
use Rattle.std.specs.Prelude.{if◌then◌else◌, Some, None, slice_index, neg_ℤ}
use Rattle.std.specs.Char.{digit_char, digit_value}
use Rattle.std.specs.Fmt.{digits_onto, digits, signed_decimal, digit_glyph}
use Rattle.std.specs.List.{list_all}
use Rattle.std.specs.Option.{option_map}
use Rattle.std.specs.Str.{bytes_eq}
use Rattle.std.specs.Str.Parse.{digits_value}
use Rattle.std.proofs.lemmas.Bool.Decides.{Decides-eqb, Decides-like, nat_tests, same_from_decides}
use Rattle.std.proofs.lemmas.Fmt.{decimal_is_IsNumeral, length-decimal-le}
use Rattle.std.proofs.lemmas.Int.{ints}
use Rattle.std.proofs.lemmas.List.Folds.{list_all-append}
use Rattle.std.proofs.lemmas.Slice.Eq.{bytes_eq-Decides}
use Rattle.std.proofs.lemmas.Str.{digit_value-digit_char}
use Rattle.fh_base.specs.Numbers.{number_in}
use Rattle.fh_base.specs.Words.{hex3_text, hex4_text}
use Rattle.pictures.specs.Numbers.{digit, integer, is_id, is_mask, is_name_byte, most, numeral}
use Rattle.drawn_laws.specs.Drawable.{IsNear}
use Rattle.drawn_laws.proofs.Words.{IsWord, is_letter}
use Rattle.fh_base.proofs.Orders.{nat_lt_true, nat_le_true}
use Rattle.fh_document.proofs.HexLemmas.{digit_below}

-- ---- digits

glyph : (d : ℕ) → d < 10 → digit_glyph false d ≡ 48 + d
glyph d small = go (nat_lt d 10) refl
  where
    go : (t : Bool) → nat_lt d 10 ≡ t → (if t then 48 + d else 87 + d) ≡ 48 + d
    go true is = refl
    go false is = let test : nat_lt d 10 ≡ true = grind (arith, nat_tests) in cc

-- what holds of the ten digits holds of each
each_digit : (p : ℕ → Bool) → p 48 ≡ true → p 49 ≡ true → p 50 ≡ true → p 51 ≡ true → p 52 ≡ true → p 53 ≡ true → p 54 ≡ true → p 55 ≡ true → p 56 ≡ true → p 57 ≡ true
    → (d : ℕ) → d < 10 → p (48 + d) ≡ true
each_digit p a b c e f g h i j k zero lt = a
each_digit p a b c e f g h i j k (suc zero) lt = b
each_digit p a b c e f g h i j k (suc (suc zero)) lt = c
each_digit p a b c e f g h i j k (suc (suc (suc zero))) lt = e
each_digit p a b c e f g h i j k (suc (suc (suc (suc zero)))) lt = f
each_digit p a b c e f g h i j k (suc (suc (suc (suc (suc zero))))) lt = g
each_digit p a b c e f g h i j k (suc (suc (suc (suc (suc (suc zero)))))) lt = h
each_digit p a b c e f g h i j k (suc (suc (suc (suc (suc (suc (suc zero))))))) lt = i
each_digit p a b c e f g h i j k (suc (suc (suc (suc (suc (suc (suc (suc zero)))))))) lt = j
each_digit p a b c e f g h i j k (suc (suc (suc (suc (suc (suc (suc (suc (suc zero))))))))) lt = k
each_digit p a b c e f g h i j k (suc (suc (suc (suc (suc (suc (suc (suc (suc (suc d)))))))))) lt = absurd (omega arith)

all_if : (t : Bool) (p : ℕ → Bool) (a b : List ℕ) → list_all p a ≡ true → list_all p b ≡ true → list_all p (if t then a else b) ≡ true
all_if true p a b e f = e
all_if false p a b e f = f

all_digits : (p : ℕ → Bool) → ((d : ℕ) → d < 10 → p (48 + d) ≡ true) → (k n : ℕ) (acc : List ℕ) → list_all p acc ≡ true → list_all p (digits_onto k 10 false n acc) ≡ true
all_digits p each zero n acc e = e
all_digits p each (suc k) n acc e =
    let less : n % 10 < 10 = omega arith in
    let first : p (digit_glyph false (n % 10)) ≡ true = ap p (glyph (n % 10) less) ∙ each (n % 10) less in
    let more : list_all p (digit_glyph false (n % 10) ∷ acc) ≡ true = ap₂ (λ (x y : Bool). x && y) first e in
    all_if (n / 10 == 0) p _ _ more (all_digits p each k (n / 10) (digit_glyph false (n % 10) ∷ acc) more)

decimal_all : (p : ℕ → Bool) → ((d : ℕ) → d < 10 → p (48 + d) ≡ true) → (n : ℕ) → list_all p (decimal n) ≡ true
unfolding digits
decimal_all p each n = all_digits p each 64 n [] refl

longer_if : (t : Bool) (m : ℕ) (a b : List ℕ) → m ≤ length a → m ≤ length b → m ≤ length (if t then a else b)
longer_if true m a b e f = e
longer_if false m a b e f = f

longer : (k n : ℕ) (acc : List ℕ) → length acc ≤ length (digits_onto k 10 false n acc)
longer zero n acc = omega arith
longer (suc k) n acc =
    let more : length acc + 1 ≤ length (digits_onto k 10 false (n / 10) (digit_glyph false (n % 10) ∷ acc)) = omega (arith, longer k (n / 10) (digit_glyph false (n % 10) ∷ acc)) in
    longer_if (n / 10 == 0) (length acc) _ _ (omega arith) (omega (arith, more))

some_onto : (k n : ℕ) → 1 ≤ length (digits_onto (suc k) 10 false n [])
some_onto k n =
    let more : 1 ≤ length (digits_onto k 10 false (n / 10) (digit_glyph false (n % 10) ∷ [])) = omega (arith, longer k (n / 10) (digit_glyph false (n % 10) ∷ [])) in
    longer_if (n / 10 == 0) 1 _ _ (omega arith) more

decimal_some : (n : ℕ) → 0 < length (decimal n)
unfolding digits
decimal_some n = let some : 1 ≤ length (digits_onto 64 10 false n []) = some_onto 63 n in omega (arith, some)

-- ---- words of numbers

pub number_word : (n : ℕ) → IsWord (decimal n)
number_word n = record { some = decimal_some n; is = decimal_all is_letter (each_digit is_letter refl refl refl refl refl refl refl refl refl refl) n }

pub key_word : (key w : List ℕ) → list_all is_letter key ≡ true → IsWord w → IsWord (key ++ w)
key_word key w e p = record {
  some = omega (arith, length-append key w, p.some);
  is = list_all-append is_letter key w ∙ ap₂ (λ (x y : Bool). x && y) e p.is;
}

pub signed_word : (z : ℤ) → IsWord (signed_decimal z)
signed_word (pos n) = number_word n
signed_word (negsuc n) = key_word (45 ∷ []) (decimal (suc n)) refl (number_word (suc n))

pub name_word : (key : List ℕ) (n : ℕ) → list_all is_letter key ≡ true → IsWord (key ++ decimal n)
name_word key n e = key_word key (decimal n) e (number_word n)

pub decimal_name : (n : ℕ) → list_all is_name_byte (decimal n) ≡ true
decimal_name n = decimal_all is_name_byte (each_digit is_name_byte refl refl refl refl refl refl refl refl refl refl) n

-- ---- numbers are read again

passed : (a b d l h : Bool) (x : ℕ) → a ≡ true → b ≡ true → d ≡ true → l ≡ true → h ≡ true → (if a && (b && (d && (l && h))) then Some x else None) ≡ Some x
passed a b d l h x p q r s t =
    ap (λ (y : Bool). if y then Some x else None)
    (ap₂ (λ (x y : Bool). x && y) p (ap₂ (λ (x y : Bool). x && y) q (ap₂ (λ (x y : Bool). x && y) r (ap₂ (λ (x y : Bool). x && y) s t))))

number_again : (most low high n : ℕ) → 0 < most → n < 10 ^ most → n < 2 ^ 64 → low ≤ n → n ≤ high → number_in most low high (decimal n) ≡ Some n
number_again most low high n some short fits least greatest =
    let value : digits_value 10 (decimal n) ≡ n = (decimal_is_IsNumeral n fits).1 in
    let few : length (decimal n) ≤ most = length-decimal-le most n some short fits in
    passed _ _ _ _ _ (digits_value 10 (decimal n)) (nat_lt_true 0 (length (decimal n)) (decimal_some n)) (nat_le_true (length (decimal n)) most few)
    (decimal_all (λ b. nat_le 48 b && nat_le b 57) (each_digit (λ b. nat_le 48 b && nat_le b 57) refl refl refl refl refl refl refl refl refl refl) n)
    (ap (λ (k : ℕ). nat_le low k) value ∙ nat_le_true low n least) (ap (λ (k : ℕ). nat_le k high) value ∙ nat_le_true n high greatest)
    ∙ ap (λ (k : ℕ). Some k) value

pub numeral_again : (low high n : ℕ) → n < 10 ^ 16 → low ≤ n → n ≤ high → numeral low high (decimal n) ≡ Some n
numeral_again low high n short least greatest = number_again 16 low high n (omega arith) short (omega arith) least greatest

pub short_again : (n : ℕ) → n < 10 ^ 16 → numeral 0 most (decimal n) ≡ Some n
short_again n short = numeral_again 0 most n short (omega arith) (omega arith)

pub digit_again : (n : ℕ) → n ≤ 9 → digit (decimal n) ≡ Some n
digit_again n small = number_again 1 0 9 n (omega arith) (omega arith) (omega arith) (omega arith) small

-- at most so many characters
pub decimal_few : (n : ℕ) → n < 10 ^ 16 → length (decimal n) ≤ 16
decimal_few n short = length-decimal-le 16 n (omega arith) short (omega arith)

pub two_again : (n : ℕ) → n ≤ 99 → number_in 2 0 99 (decimal n) ≡ Some n
two_again n small = number_again 2 0 99 n (omega arith) (omega arith) (omega arith) (omega arith) small

no_minus : (w : List ℕ) → list_all (λ b. nat_le 48 b && nat_le b 57) w ≡ true → (slice_index w 0 == 45) ≡ false
no_minus [] e = refl
no_minus (b ∷ w) e = go (nat_le 48 b) refl e
  where
    go : (t : Bool) → nat_le 48 b ≡ t → ((t && nat_le b 57) && list_all (λ b. nat_le 48 b && nat_le b 57) w) ≡ true → (b == 45) ≡ false
    go true is e = grind (arith, nat_tests)
    go false is e = cc

pub integer_again : (z : ℤ) → IsNear z → integer (signed_decimal z) ≡ Some z
integer_again (pos n) near =
    let high : pos n <ℤ pos (10 ^ 16) = near.high in
    let short : n < 10 ^ 16 = omega (arith, ints, high) in
    let first : (slice_index (decimal n) 0 == 45) ≡ false = no_minus (decimal n)
    (decimal_all (λ b. nat_le 48 b && nat_le b 57) (each_digit (λ b. nat_le 48 b && nat_le b 57) refl refl refl refl refl refl refl refl refl refl) n) in
    ap (λ (t : Bool). if t then option_map (λ n. neg_ℤ (pos n)) (numeral 0 most (drop 1 (decimal n))) else option_map (λ n. pos n) (numeral 0 most (decimal n))) first
    ∙ ap (option_map (λ n. pos n)) (short_again n short)
integer_again (negsuc n) near =
    let low : neg_ℤ (pos (10 ^ 16)) <ℤ negsuc n = near.low in
    let short : suc n < 10 ^ 16 = omega (arith, ints, low) in
    ap (option_map (λ n. neg_ℤ (pos n))) (short_again (suc n) short)

-- ---- hexadecimal digits

each_hex : (p : ℕ → Bool) → p 48 ≡ true → p 49 ≡ true → p 50 ≡ true → p 51 ≡ true → p 52 ≡ true → p 53 ≡ true → p 54 ≡ true → p 55 ≡ true → p 56 ≡ true → p 57 ≡ true
    → p 97 ≡ true → p 98 ≡ true → p 99 ≡ true → p 100 ≡ true → p 101 ≡ true → p 102 ≡ true → (d : ℕ) → d < 16 → p (digit_char d) ≡ true
each_hex p a b c e f g h i j k l m n o q r zero lt = a
each_hex p a b c e f g h i j k l m n o q r (suc zero) lt = b
each_hex p a b c e f g h i j k l m n o q r (suc (suc zero)) lt = c
each_hex p a b c e f g h i j k l m n o q r (suc (suc (suc zero))) lt = e
each_hex p a b c e f g h i j k l m n o q r (suc (suc (suc (suc zero)))) lt = f
each_hex p a b c e f g h i j k l m n o q r (suc (suc (suc (suc (suc zero))))) lt = g
each_hex p a b c e f g h i j k l m n o q r (suc (suc (suc (suc (suc (suc zero)))))) lt = h
each_hex p a b c e f g h i j k l m n o q r (suc (suc (suc (suc (suc (suc (suc zero))))))) lt = i
each_hex p a b c e f g h i j k l m n o q r (suc (suc (suc (suc (suc (suc (suc (suc zero)))))))) lt = j
each_hex p a b c e f g h i j k l m n o q r (suc (suc (suc (suc (suc (suc (suc (suc (suc zero))))))))) lt = k
each_hex p a b c e f g h i j k l m n o q r (suc (suc (suc (suc (suc (suc (suc (suc (suc (suc zero)))))))))) lt = l
each_hex p a b c e f g h i j k l m n o q r (suc (suc (suc (suc (suc (suc (suc (suc (suc (suc (suc zero))))))))))) lt = m
each_hex p a b c e f g h i j k l m n o q r (suc (suc (suc (suc (suc (suc (suc (suc (suc (suc (suc (suc zero)))))))))))) lt = n
each_hex p a b c e f g h i j k l m n o q r (suc (suc (suc (suc (suc (suc (suc (suc (suc (suc (suc (suc (suc zero))))))))))))) lt = o
each_hex p a b c e f g h i j k l m n o q r (suc (suc (suc (suc (suc (suc (suc (suc (suc (suc (suc (suc (suc (suc zero)))))))))))))) lt = q
each_hex p a b c e f g h i j k l m n o q r (suc (suc (suc (suc (suc (suc (suc (suc (suc (suc (suc (suc (suc (suc (suc zero))))))))))))))) lt = r
each_hex p a b c e f g h i j k l m n o q r (suc (suc (suc (suc (suc (suc (suc (suc (suc (suc (suc (suc (suc (suc (suc (suc d)))))))))))))))) lt = absurd (omega arith)

hex_letter : (d : ℕ) → d < 16 → is_letter (digit_char d) ≡ true
hex_letter = each_hex is_letter refl refl refl refl refl refl refl refl refl refl refl refl refl refl refl refl

abbrev is_hex : ℕ → Bool
is_hex b = (nat_le 48 b && nat_le b 57) || (nat_le 97 b && nat_le b 102)

hex_lower : (d : ℕ) → d < 16 → is_hex (digit_char d) ≡ true
hex_lower = each_hex is_hex refl refl refl refl refl refl refl refl refl refl refl refl refl refl refl refl

all_cons : (p : ℕ → Bool) (b : ℕ) (w : List ℕ) → p b ≡ true → list_all p w ≡ true → list_all p (b ∷ w) ≡ true
all_cons p b w e f = ap₂ (λ (x y : Bool). x && y) e f

hex3_all : (p : ℕ → Bool) → ((d : ℕ) → d < 16 → p (digit_char d) ≡ true) → (n : ℕ) → list_all p (hex3_text n) ≡ true
hex3_all p each n =
    all_cons p (digit_char (n / 256 % 16)) (digit_char (n / 16 % 16) ∷ digit_char (n % 16) ∷ []) (each (n / 256 % 16) (digit_below (n / 256)))
    (all_cons p (digit_char (n / 16 % 16)) (digit_char (n % 16) ∷ []) (each (n / 16 % 16) (digit_below (n / 16)))
    (all_cons p (digit_char (n % 16)) [] (each (n % 16) (digit_below n)) refl))

hex4_all : (p : ℕ → Bool) → ((d : ℕ) → d < 16 → p (digit_char d) ≡ true) → (n : ℕ) → list_all p (hex4_text n) ≡ true
hex4_all p each n = all_cons p (digit_char (n / 4096 % 16)) (hex3_text n) (each (n / 4096 % 16) (digit_below (n / 4096))) (hex3_all p each n)

pub hex4_word : (n : ℕ) → IsWord (hex4_text n)
hex4_word n = record { some = omega arith; is = hex4_all is_letter hex_letter n }

pub hex4_id : (n : ℕ) → is_id (hex4_text n) ≡ true
hex4_id n = hex4_all is_hex hex_lower n

pub mask_word : (n : ℕ) → IsWord (codes "mask=" ++ hex3_text n)
mask_word n = key_word (codes "mask=") (hex3_text n) refl (record { some = omega arith; is = hex3_all is_letter hex_letter n })

pub mask_again : (n : ℕ) → is_mask (codes "mask=" ++ hex3_text n) ≡ true
mask_again n = hex3_all is_hex hex_lower n

-- two ids of 16 bits are one where their digits are
same_digit : (d e : ℕ) → d < 16 → e < 16 → digit_char d ≡ digit_char e → d ≡ e
same_digit d e low high is = sym (digit_value-digit_char d (omega arith)) ∙ ap digit_value is ∙ digit_value-digit_char e (omega arith)

same_id : (a b : ℕ) → a < 2 ^ 16 → b < 2 ^ 16 → hex4_text a ≡ hex4_text b → a ≡ b
same_id a b low high is =
    let one : a / 4096 % 16 ≡ b / 4096 % 16 = same_digit _ _ (digit_below (a / 4096)) (digit_below (b / 4096)) (ap (λ (t : List ℕ). get_or t 0 0) is) in
    let two : a / 256 % 16 ≡ b / 256 % 16 = same_digit _ _ (digit_below (a / 256)) (digit_below (b / 256)) (ap (λ (t : List ℕ). get_or t 1 0) is) in
    let three : a / 16 % 16 ≡ b / 16 % 16 = same_digit _ _ (digit_below (a / 16)) (digit_below (b / 16)) (ap (λ (t : List ℕ). get_or t 2 0) is) in
    let four : a % 16 ≡ b % 16 = same_digit _ _ (digit_below a) (digit_below b) (ap (λ (t : List ℕ). get_or t 3 0) is) in
    omega (arith, one, two, three, four)

pub ids_compare : (a b : ℕ) → a < 2 ^ 16 → b < 2 ^ 16 → bytes_eq (hex4_text a) (hex4_text b) ≡ (a == b)
ids_compare a b low high =
    same_from_decides (bytes_eq (hex4_text a) (hex4_text b)) (a == b)
    (Decides-like (bytes_eq (hex4_text a) (hex4_text b)) (same_id a b low high) (ap hex4_text) (bytes_eq-Decides (hex4_text a) (hex4_text b))) (Decides-eqb a b)
