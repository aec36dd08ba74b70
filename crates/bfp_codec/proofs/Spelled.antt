-- The bytes of a packed block, by their fields.
use Rattle.std.proofs.Common.{◌≡◌, ℕ, ℤ, zero, suc, ◌+◌, ◌*◌, ◌/◌, ◌%◌, ◌^◌, ◌<◌, ◌≤◌, List, [], ◌∷◌, length, get_or, refl, sym, ap, subst, ◌∙◌, arith, add-zero, add-suc, add_assoc}
use Rattle.std.proofs.Math.Nat.{mul-suc, mul-zero, mod-eq_of_lt}
use Rattle.std.proofs.lemmas.Nat.{pow-add, mod_below, mod-pow-add}
use Rattle.bfp_codec.specs.Field.{field, signed, digits}
use Rattle.bfp_codec.proofs.Field.{field_split, field_fits, field_byte, field_drop, field_of_field}
use Rattle.bfp_codec.proofs.Digits.{field_digits, digits_fit, same_digits}
use Rattle.bfp_codec.proofs.Same.{same_bytes}
use Rattle.bfp_codec.specs.Exponent.{Within}
use Rattle.bfp_codec.specs.Layout.{twos, be_bytes, number_bytes, Spells, SpellsPlain}
use Rattle.bfp_codec.proofs.Twos.{twos_fits, signed_twos}

pub length-be_bytes : (n x : ℕ) → length (be_bytes n x) ≡ n
unfolding be_bytes
length-be_bytes zero x = refl
length-be_bytes (suc n) x = ap suc (length-be_bytes n x)

pub be_bytes_small : (n x i : ℕ) → get_or (be_bytes n x) i 0 < 256
unfolding be_bytes
be_bytes_small zero x zero = omega arith
be_bytes_small zero x (suc i) = omega arith
be_bytes_small (suc n) x zero = mod_below (x / 2 ^ (8 * n)) 256 (omega arith)
be_bytes_small (suc n) x (suc i) = be_bytes_small n x i

-- the fields of what follows a byte
pub field_after : (b : ℕ) (xs : List ℕ) (i n : ℕ) → field (b ∷ xs) (8 + i) n ≡ field xs i n
field_after b xs i n = sym (field_drop (b ∷ xs) 1 i n)

pub field_be_bytes : (n x : ℕ) → field (be_bytes n x) 0 (8 * n) ≡ x % 2 ^ (8 * n)
unfolding be_bytes field
field_be_bytes zero x = omega arith
field_be_bytes (suc n) x =
    let b = x / 2 ^ (8 * n) % 256 in
    let rest = be_bytes n x in
    let size : 8 * suc n ≡ 8 + 8 * n = omega arith in
    let first : field (b ∷ rest) 0 8 ≡ b = field_byte (b ∷ rest) 0 (mod_below (x / 2 ^ (8 * n)) 256 (omega arith)) in
    let others : field (b ∷ rest) 8 (8 * n) ≡ x % 2 ^ (8 * n) = field_after b rest 0 (8 * n) ∙ field_be_bytes n x in
    let whole = field_split (b ∷ rest) 0 8 (8 * n) in
    let both = mod-pow-add x 8 (8 * n) in
    ap (field (b ∷ rest) 0) size ∙ whole ∙ ap (λ y. y * 2 ^ (8 * n) + field (b ∷ rest) 8 (8 * n)) first ∙ ap (λ y. b * 2 ^ (8 * n) + y) others ∙ sym both ∙ ap (λ k. x % 2 ^ k) (sym size)

-- bytes that spell a number are the number's
pub bytes_are : (n x : ℕ) (xs : List ℕ) → length xs ≡ n → ((i : ℕ) → get_or xs i 0 < 256) → field xs 0 (8 * n) ≡ x → xs ≡ be_bytes n x
bytes_are n x xs len small e =
    let fits : x < 2 ^ (8 * n) = subst (λ y. y < 2 ^ (8 * n)) e (field_fits xs 0 (8 * n)) in
    let there : field (be_bytes n x) 0 (8 * n) ≡ x = field_be_bytes n x ∙ mod-eq_of_lt fits in
    same_bytes xs (be_bytes n x) small (be_bytes_small n x) (len ∙ sym (length-be_bytes n x))
    (ap (λ k. field xs 0 (8 * k)) len ∙ e ∙ sym there ∙ ap (λ k. field (be_bytes n x) 0 (8 * k)) (sym len))

-- more digits
pub digits_split : (w : ℕ) (f : ℕ → ℕ) (m n : ℕ) → digits w f (m + n) ≡ digits w f m * 2 ^ (w * n) + digits w (λ k. f (m + k)) n
unfolding digits
digits_split w f m zero = rw (add-zero m, mul-zero w) (omega arith)
digits_split w f m (suc n) =
    let before = digits_split w f m n in
    let power : 2 ^ (w * suc n) ≡ 2 ^ (w * n) * 2 ^ w = ap (λ j. 2 ^ j) (mul-suc w n) ∙ pow-add 2 (w * n) w in
    let product : (digits w f m * 2 ^ (w * n) + digits w (λ k. f (m + k)) n) * 2 ^ w ≡ digits w f m * (2 ^ (w * n) * 2 ^ w) + digits w (λ k. f (m + k)) n * 2 ^ w = grind arith in
    rw (add-suc m n, power, before, product) (add_assoc (digits w f m * (2 ^ (w * n) * 2 ^ w)) (digits w (λ k. f (m + k)) n * 2 ^ w) (f (m + n)))

-- 24 numbers in three groups of w bytes
pub three_groups : (xs : List ℕ) (at w : ℕ) (f : ℕ → ℕ) → field xs at (8 * w) ≡ digits w f 8 → field xs (at + 8 * w) (8 * w) ≡ digits w (λ k. f (8 + k)) 8
    → field xs (at + 16 * w) (8 * w) ≡ digits w (λ k. f (16 + k)) 8 → field xs at (w * 24) ≡ digits w f 24
three_groups xs at w f a b d =
    let turned : w * 8 ≡ 8 * w = omega arith in
    let two : field xs at (8 * w + 8 * w) ≡ digits w f 16 =
    field_split xs at (8 * w) (8 * w) ∙ ap (λ n. n * 2 ^ (8 * w) + field xs (at + 8 * w) (8 * w)) a ∙ ap (λ n. digits w f 8 * 2 ^ (8 * w) + n) b
    ∙ sym (digits_split w f 8 8 ∙ ap (λ n. digits w f 8 * 2 ^ n + digits w (λ k. f (8 + k)) 8) turned) in
    let place : at + (8 * w + 8 * w) ≡ at + 16 * w = omega arith in
    let size : w * 24 ≡ 8 * w + 8 * w + 8 * w = omega arith in
    ap (field xs at) size ∙ field_split xs at (8 * w + 8 * w) (8 * w) ∙ ap (λ n. n * 2 ^ (8 * w) + field xs (at + (8 * w + 8 * w)) (8 * w)) two
    ∙ ap (λ n. digits w f 16 * 2 ^ (8 * w) + n) (ap (λ i. field xs i (8 * w)) place ∙ d)
    ∙ sym (digits_split w f 16 8 ∙ ap (λ n. digits w f 16 * 2 ^ n + digits w (λ k. f (16 + k)) 8) turned)

-- the numbers that are read where digits were written
numbers_read : (xs : List ℕ) (at w : ℕ) (m : ℕ → ℤ) → 1 ≤ w → ((k : ℕ) → k < 24 → Within w (m k)) → field xs at (w * 24) ≡ digits w (λ k. twos w (m k)) 24
    → (k : ℕ) → k < 24 → signed w (field xs (at + w * k) w) ≡ m k
numbers_read xs at w m low within e k h =
    ap (signed w) (same_digits w (λ j. field xs (at + w * j) w) (λ j. twos w (m j)) 24 (λ j lt. field_fits xs (at + w * j) w) (λ j lt. twos_fits w (m j) low (within j lt)) (sym (field_digits xs at w 24) ∙ e) k h)
    ∙ signed_twos w (m k) low (within k h)

field_number_bytes : (w : ℕ) (m : ℕ → ℤ) → 1 ≤ w → ((k : ℕ) → k < 24 → Within w (m k)) → field (number_bytes w m) 0 (w * 24) ≡ digits w (λ k. twos w (m k)) 24
unfolding number_bytes
field_number_bytes w m low within =
    let d = digits w (λ k. twos w (m k)) 24 in
    let size : w * 24 ≡ 8 * (3 * w) = omega arith in
    let fit : d < 2 ^ (8 * (3 * w)) = subst (λ n. d < 2 ^ n) size (digits_fit w (λ k. twos w (m k)) 24 (λ k h. twos_fits w (m k) low (within k h))) in
    ap (field (be_bytes (3 * w) d) 0) size ∙ field_be_bytes (3 * w) d ∙ mod-eq_of_lt fit

pub length-number_bytes : (w : ℕ) (m : ℕ → ℤ) → length (number_bytes w m) ≡ 3 * w
unfolding number_bytes
length-number_bytes w m = length-be_bytes (3 * w) (digits w (λ k. twos w (m k)) 24)

pub number_bytes_small : (w : ℕ) (m : ℕ → ℤ) (i : ℕ) → get_or (number_bytes w m) i 0 < 256
unfolding number_bytes
number_bytes_small w m i = be_bytes_small (3 * w) (digits w (λ k. twos w (m k)) 24) i

pub spells_packed : (w e : ℕ) (m : ℕ → ℤ) → 1 ≤ w → e ≤ 15 → ((k : ℕ) → k < 24 → Within w (m k)) → Spells w e m (e ∷ number_bytes w m)
spells_packed w e m low small within =
    let xs = e ∷ number_bytes w m in
    let head : field xs 0 8 ≡ e = field_byte xs 0 (omega arith) in
    record {
      len = omega (arith, length-number_bytes w m);
      reserved = omega (arith, field_of_field xs 0 8 0 4 (omega arith), head);
      exponent = omega (arith, field_of_field xs 0 8 4 4 (omega arith), head);
      numbers = numbers_read xs 8 w m low within (field_after e (number_bytes w m) 0 (w * 24) ∙ field_number_bytes w m low within);
    }

pub spells_plain : (m : ℕ → ℤ) → ((k : ℕ) → k < 24 → Within 16 (m k)) → SpellsPlain m (number_bytes 16 m)
spells_plain m within =
    let xs = number_bytes 16 m in
    record {
      len = length-number_bytes 16 m;
      numbers = λ k h.
          let place : 0 + 16 * k ≡ 16 * k = omega arith in
          ap (λ i. signed 16 (field xs i 16)) (sym place) ∙ numbers_read xs 0 16 m (omega arith) within (field_number_bytes 16 m (omega arith) within) k h;
    }

-- what was written byte by byte is the packed block
pub packed_bytes : (w e : ℕ) (m : ℕ → ℤ) (xs : List ℕ) → length xs ≡ 1 + 3 * w → ((i : ℕ) → get_or xs i 0 < 256) → e < 256 → field xs 0 8 ≡ e
    → field xs 8 (w * 24) ≡ digits w (λ k. twos w (m k)) 24 → xs ≡ e ∷ number_bytes w m
unfolding number_bytes
packed_bytes w e m [] len small fits head numbers = absurd (omega (arith, len))
packed_bytes w e m (x ∷ xs) len small fits head numbers =
    let x_is : x ≡ e = sym (field_byte (x ∷ xs) 0 (small 0)) ∙ head in
    let size : 8 * (3 * w) ≡ w * 24 = omega arith in
    let rest : xs ≡ be_bytes (3 * w) (digits w (λ k. twos w (m k)) 24) =
    bytes_are (3 * w) (digits w (λ k. twos w (m k)) 24) xs (omega (arith, len)) (λ i. small (suc i))
    (sym (field_after x xs 0 (8 * (3 * w))) ∙ ap (field (x ∷ xs) 8) size ∙ numbers) in
    ap (λ b. b ∷ xs) x_is ∙ ap (λ r. e ∷ r) rest

pub plain_bytes : (m : ℕ → ℤ) (xs : List ℕ) → length xs ≡ 48 → ((i : ℕ) → get_or xs i 0 < 256) → field xs 0 (16 * 24) ≡ digits 16 (λ k. twos 16 (m k)) 24 → xs ≡ number_bytes 16 m
unfolding number_bytes
plain_bytes m xs len small numbers = bytes_are 48 (digits 16 (λ k. twos 16 (m k)) 24) xs len small numbers
