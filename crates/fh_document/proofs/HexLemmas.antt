-- Numbers and frames in hexadecimal digits.
use Rattle.std.proofs.Common.{◌≡◌, ℕ, ◌+◌, ◌*◌, ◌<◌, ◌≤◌, ◌^◌, ◌/◌, ◌%◌, List, [], ◌∷◌, length, Bool, true, ◌&&◌, nat_lt, nat_le, Some, None, refl, ap, ◌∙◌, arith}
use Rattle.std.specs.Prelude.{◌==◌, codes}
use Rattle.std.specs.Char.{digit_char, digit_value}
use Rattle.std.specs.List.{list_all}
use Rattle.std.specs.Str.{bytes_eq}
use Rattle.std.proofs.lemmas.Bool.Decides.{nat_tests}
use Rattle.std.proofs.lemmas.List.Elements.{All-head, All-tail}
use Rattle.std.proofs.lemmas.Str.{digit_value-digit_char}
use Rattle.fh_base.specs.Words.{hex4_text, hex3_text}
use Rattle.fh_document.specs.Hex.{hex_of, is_hex, bytes_of, decoded}
use Rattle.fh_document.specs.Joined.{is_word}
use Rattle.fh_document.specs.Laws.{AreBytes, FramesAreRead, IdsAreRead}
use Rattle.fh_document.specs.LineWords.{hex_text, frame_word}
use Rattle.fh_document.proofs.Tests.{if_true}
use Rattle.fh_base.specs.declared.source.TheConstants.{FRAME_LIMIT}
use Rattle.fh_base.proofs.Orders.{and_false_3 as and_false, both_true, if_not}

digit_is : (d : ℕ) → d < 16 → digit_value (digit_char d) ≡ d
digit_is d small = digit_value-digit_char d (omega arith)

digit_hex : (d : ℕ) → d < 16 → nat_lt (digit_value (digit_char d)) 16 ≡ true
digit_hex d small = ap (λ v. nat_lt v 16) (digit_is d small) ∙ less d small
  where
    less : (d : ℕ) → d < 16 → nat_lt d 16 ≡ true
    less d h = grind (arith, nat_tests)

digit_visible : (d : ℕ) → d < 16 → (nat_le 33 (digit_char d) && nat_le (digit_char d) 126) ≡ true
digit_visible d small = grind (arith, nat_tests)

pub digit_below : (n : ℕ) → n % 16 < 16
digit_below n = omega arith

-- ---- ids and masks

pub id_is : (n : ℕ) → n < 2 ^ 16 → hex_of 4 (hex4_text n) ≡ Some n
id_is n small =
    let a = digit_hex (n / 4096 % 16) (digit_below (n / 4096)) in
    let b = digit_hex (n / 256 % 16) (digit_below (n / 256)) in
    let c = digit_hex (n / 16 % 16) (digit_below (n / 16)) in
    let d = digit_hex (n % 16) (digit_below n) in
    if_true (is_hex (hex4_text n)) _ None (both_true _ _ a (both_true _ _ b (both_true _ _ c (both_true _ true d refl))))
    ∙ ap Some (value (digit_value (digit_char (n / 4096 % 16))) (digit_value (digit_char (n / 256 % 16))) (digit_value (digit_char (n / 16 % 16))) (digit_value (digit_char (n % 16)))
    (digit_is (n / 4096 % 16) (digit_below (n / 4096))) (digit_is (n / 256 % 16) (digit_below (n / 256))) (digit_is (n / 16 % 16) (digit_below (n / 16))) (digit_is (n % 16) (digit_below n)))
  where
    value : (w x y z : ℕ) → w ≡ n / 4096 % 16 → x ≡ n / 256 % 16 → y ≡ n / 16 % 16 → z ≡ n % 16 → (((0 * 16 + w) * 16 + x) * 16 + y) * 16 + z ≡ n
    value w x y z e f g h = omega arith

pub mask_is : (n : ℕ) → n < 2 ^ 12 → hex_of 3 (hex3_text n) ≡ Some n
mask_is n small =
    let b = digit_hex (n / 256 % 16) (digit_below (n / 256)) in
    let c = digit_hex (n / 16 % 16) (digit_below (n / 16)) in
    let d = digit_hex (n % 16) (digit_below n) in
    if_true (is_hex (hex3_text n)) _ None (both_true _ _ b (both_true _ _ c (both_true _ true d refl)))
    ∙ ap Some (value (digit_value (digit_char (n / 256 % 16))) (digit_value (digit_char (n / 16 % 16))) (digit_value (digit_char (n % 16)))
    (digit_is (n / 256 % 16) (digit_below (n / 256))) (digit_is (n / 16 % 16) (digit_below (n / 16))) (digit_is (n % 16) (digit_below n)))
  where
    value : (x y z : ℕ) → x ≡ n / 256 % 16 → y ≡ n / 16 % 16 → z ≡ n % 16 → ((0 * 16 + x) * 16 + y) * 16 + z ≡ n
    value x y z f g h = omega arith

pub id_word : (n : ℕ) → is_word (hex4_text n) ≡ true
id_word n =
    both_true _ _ (digit_visible (n / 4096 % 16) (digit_below (n / 4096))) (both_true _ _ (digit_visible (n / 256 % 16) (digit_below (n / 256)))
    (both_true _ _ (digit_visible (n / 16 % 16) (digit_below (n / 16))) (both_true _ true (digit_visible (n % 16) (digit_below n)) refl)))

pub mask_word : (n : ℕ) → is_word (hex3_text n) ≡ true
mask_word n =
    both_true _ _ (digit_visible (n / 256 % 16) (digit_below (n / 256))) (both_true _ _ (digit_visible (n / 16 % 16) (digit_below (n / 16))) (both_true _ true (digit_visible (n % 16) (digit_below n)) refl))

-- ---- frames

abbrev visible : List ℕ → Bool
visible w = list_all (λ b. nat_le 33 b && nat_le b 126) w

hex_visible : (bytes : List ℕ) → visible (hex_text bytes) ≡ true
hex_visible [] = refl
hex_visible (b ∷ bytes) =
    both_true _ _ (digit_visible (b / 16 % 16) (digit_below (b / 16))) (both_true _ _ (digit_visible (b % 16) (digit_below b)) (hex_visible bytes))

all_hex : (bytes : List ℕ) → is_hex (hex_text bytes) ≡ true
all_hex [] = refl
all_hex (b ∷ bytes) = both_true _ _ (digit_hex (b / 16 % 16) (digit_below (b / 16))) (both_true _ _ (digit_hex (b % 16) (digit_below b)) (all_hex bytes))

bytes_are : (bytes : List ℕ) → AreBytes bytes → bytes_of (hex_text bytes) ≡ bytes
bytes_are [] h = refl
bytes_are (b ∷ bytes) h =
    ap (λ x. x ∷ bytes_of (hex_text bytes)) (value b (digit_value (digit_char (b / 16 % 16))) (digit_value (digit_char (b % 16))) (All-head (λ x. x < 256) b bytes h)
    (digit_is (b / 16 % 16) (digit_below (b / 16))) (digit_is (b % 16) (digit_below b)))
    ∙ ap (λ xs. b ∷ xs) (bytes_are bytes (All-tail (λ x. x < 256) b bytes h))
  where
    value : (b x y : ℕ) → b < 256 → x ≡ b / 16 % 16 → y ≡ b % 16 → 16 * x + y ≡ b
    value b x y small e f = omega arith

pub hex_size : (bytes : List ℕ) → length (hex_text bytes) ≡ 2 * length bytes
hex_size [] = refl
hex_size (b ∷ bytes) = omega (arith, hex_size bytes)

some_true : (n : ℕ) → 0 < n → nat_lt 0 n ≡ true
some_true n h = grind (arith, nat_tests)

pub frame_visible : (bytes : List ℕ) → is_word (frame_word bytes) ≡ true
frame_visible [] = refl
frame_visible (b ∷ bytes) =
    both_true (nat_lt 0 (length (hex_text (b ∷ bytes)))) _ (some_true (length (hex_text (b ∷ bytes))) (omega (arith, hex_size (b ∷ bytes)))) (hex_visible (b ∷ bytes))

fits : (n m : ℕ) → n ≡ 2 * m → m ≤ FRAME_LIMIT → (nat_le n (2 * FRAME_LIMIT) && (n % 2 == 0)) ≡ true
fits n m is most =
    let even : n % 2 ≡ 0 = omega arith in
    grind (arith, nat_tests)

pub frame_is : FramesAreRead
frame_is [] h most = refl
frame_is (b ∷ bytes) h most =
    let all = b ∷ bytes in
    if_not (bytes_eq (hex_text all) (codes "-")) (Some []) _ (and_false _)
    ∙ if_true _ (decoded (hex_text all)) None (fits (length (hex_text all)) (length all) (hex_size all) most)
    ∙ if_true (is_hex (hex_text all)) (Some (bytes_of (hex_text all))) None (all_hex all)
    ∙ ap Some (bytes_are all h)

pub ids_are_read : IdsAreRead
ids_are_read = (id_is, mask_is)
