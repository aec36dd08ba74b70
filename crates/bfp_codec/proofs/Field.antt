use Rattle.std.proofs.Common.{◌≡◌, ℕ, zero, suc, ◌+◌, ◌-◌, ◌*◌, ◌/◌, ◌%◌, ◌^◌, ◌<◌, ◌≤◌, List, length, get_or, set, take, drop, ◌⊎◌, inl, refl, sym, ap, ◌∙◌, arith, add-zero, add-one, add_assoc, add-suc}
use Rattle.std.proofs.lemmas.Grind.{common_steps}
use Rattle.std.proofs.lemmas.List.{get_or-take, get_or-drop}
use Rattle.std.proofs.Math.Nat.{pow-suc}
use Rattle.std.proofs.lemmas.Nat.{mod-pow-add, shr-shr, shr_high, mod_low}
use Rattle.bfp_codec.specs.Field.{field}

-- a field is its first m bits and then its other n
pub field_split : (bytes : List ℕ) (i m n : ℕ) → field bytes i (m + n) ≡ field bytes i m * 2 ^ n + field bytes (i + m) n
unfolding field
field_split bytes i m zero = rw (add-zero m) (omega arith)
field_split bytes i m (suc n) =
    rw (add-suc m n) (rw (field_split bytes i m n, add_assoc i m n, pow-suc 2 n) (omega arith))

-- one more bit of a number
one_more : (b m n : ℕ) → (b / 2 ^ (m + 1) % 2 ^ n) * 2 + b / 2 ^ m % 2 ≡ b / 2 ^ m % 2 ^ suc n
one_more b m n = rw (← add-one n, mod-pow-add (b / 2 ^ m) n 1, ← shr-shr b m 1) refl

-- a field inside of one byte
pub field_in_byte : (bytes : List ℕ) (i n : ℕ) → i % 8 + n ≤ 8 → field bytes i n ≡ get_or bytes (i / 8) 0 / 2 ^ (8 - (i % 8 + n)) % 2 ^ n
unfolding field
field_in_byte bytes i zero h = omega arith
field_in_byte bytes i (suc n) h =
    let m = 8 - (i % 8 + suc n) in
    let before : 8 - (i % 8 + n) ≡ m + 1 = omega arith in
    let here : 7 - (i + n) % 8 ≡ m = omega arith in
    let byte : (i + n) / 8 ≡ i / 8 = omega arith in
    rw (field_in_byte bytes i n (omega arith), before, here, byte) (one_more (get_or bytes (i / 8) 0) m n)

-- a field that goes on in the next byte
pub field_across : (bytes : List ℕ) (i n : ℕ) → 8 < i % 8 + n → field bytes i n ≡ field bytes i (8 - i % 8) * 2 ^ (n - (8 - i % 8)) + field bytes (i + (8 - i % 8)) (n - (8 - i % 8))
field_across bytes i n h =
    let m = 8 - i % 8 in
    let sum : n ≡ m + (n - m) = omega arith in
    ap (field bytes i) sum ∙ field_split bytes i m (n - m)

pub ruleset fields = (field_in_byte, field_across)

pub field_fits : (bytes : List ℕ) (i n : ℕ) → field bytes i n < 2 ^ n
unfolding field
field_fits bytes i zero = omega arith
field_fits bytes i (suc n) = rw (pow-suc 2 n) (omega (arith, field_fits bytes i n))

-- a field inside of another
pub field_of_field : (bytes : List ℕ) (i m j n : ℕ) → j + n ≤ m → field bytes (i + j) n ≡ field bytes i m / 2 ^ (m - (j + n)) % 2 ^ n
field_of_field bytes i m j n h =
    let r = m - (j + n) in
    let sum : m ≡ (j + n) + r = omega arith in
    let whole : field bytes i m ≡ field bytes i (j + n) * 2 ^ r + field bytes (i + (j + n)) r = ap (field bytes i) sum ∙ field_split bytes i (j + n) r in
    let high : field bytes i m / 2 ^ r ≡ field bytes i (j + n) = rw whole (shr_high (field bytes i (j + n)) r _ (field_fits bytes (i + (j + n)) r)) in
    let low : field bytes i (j + n) % 2 ^ n ≡ field bytes (i + j) n = rw (field_split bytes i j n) (mod_low (field bytes i j) n _ (field_fits bytes (i + j) n)) in
    sym (rw high low)

pub field_of_word : (bytes : List ℕ) (i n : ℕ) → i % 32 + n ≤ 32 → field bytes i n ≡ field bytes (i - i % 32) 32 / 2 ^ (32 - (i % 32 + n)) % 2 ^ n
field_of_word bytes i n h =
    let place : i ≡ (i - i % 32) + i % 32 = omega arith in
    ap (λ k. field bytes k n) place ∙ field_of_field bytes (i - i % 32) 32 (i % 32) n h

pub field_of_half : (bytes : List ℕ) (i n : ℕ) → i % 16 + n ≤ 16 → field bytes i n ≡ field bytes (i - i % 16) 16 / 2 ^ (16 - (i % 16 + n)) % 2 ^ n
field_of_half bytes i n h =
    let place : i ≡ (i - i % 16) + i % 16 = omega arith in
    ap (λ k. field bytes k n) place ∙ field_of_field bytes (i - i % 16) 16 (i % 16) n h

-- whole bytes
pub field_byte : (bytes : List ℕ) (k : ℕ) → get_or bytes k 0 < 256 → field bytes (8 * k) 8 ≡ get_or bytes k 0
field_byte bytes k h =
    let e = field_in_byte bytes (8 * k) 8 (omega arith) in
    let place : 8 * k / 8 ≡ k = omega arith in
    let zero_in : 8 - (8 * k % 8 + 8) ≡ 0 = omega arith in
    rw (e, place, zero_in) (omega arith)

pub field_half : (bytes : List ℕ) (k : ℕ) → get_or bytes k 0 < 256 → get_or bytes (k + 1) 0 < 256 → field bytes (8 * k) 16 ≡ get_or bytes k 0 * 256 + get_or bytes (k + 1) 0
field_half bytes k h0 h1 =
    let b0 = field_byte bytes k h0 in
    let b1 : field bytes (8 * k + 8) 8 ≡ get_or bytes (k + 1) 0 = ap (λ i. field bytes i 8) (omega arith) ∙ field_byte bytes (k + 1) h1 in
    omega (arith, field_split bytes (8 * k) 8 8)

pub field_word : (bytes : List ℕ) (k : ℕ) → get_or bytes k 0 < 256 → get_or bytes (k + 1) 0 < 256 → get_or bytes (k + 2) 0 < 256 → get_or bytes (k + 3) 0 < 256 → field bytes (8 * k) 32 ≡ ((get_or bytes k 0 * 256 + get_or bytes (k + 1) 0) * 256 + get_or bytes (k + 2) 0) * 256 + get_or bytes (k + 3) 0
field_word bytes k h0 h1 h2 h3 =
    let high = field_half bytes k h0 h1 in
    let low : field bytes (8 * k + 16) 16 ≡ get_or bytes (k + 2) 0 * 256 + get_or bytes (k + 3) 0 =
    ap (λ i. field bytes i 16) (omega arith) ∙ rw (add_assoc k 2 1) at (field_half bytes (k + 2) h2 (rw (add_assoc k 2 1) h3)) in
    omega (arith, field_split bytes (8 * k) 16 16)

pub ruleset halves = (field_of_half, field_half)

pub ruleset words = (field_of_word, field_word)

-- a field reads the bytes that it lies in, and no others
pub field_same : (xs ys : List ℕ) (i n : ℕ) → ((k : ℕ) → i / 8 ≤ k → 8 * k < i + n → get_or xs k 0 ≡ get_or ys k 0) → field xs i n ≡ field ys i n
unfolding field
field_same xs ys i zero h = refl
field_same xs ys i (suc n) h =
    let before = field_same xs ys i n (λ k low high. h k low (omega arith)) in
    let byte : get_or xs ((i + n) / 8) 0 ≡ get_or ys ((i + n) / 8) 0 = h ((i + n) / 8) (omega arith) (omega arith) in
    rw (before, byte) refl

get_is : (xs : List ℕ) (k a : ℕ) → get_or xs k 0 ≡ a → a < 256 → get_or xs k 0 < 256
get_is xs k a e h = rw e h

-- four bytes, written one by one
pub field_put : (xs : List ℕ) (k a b c d : ℕ) → k + 4 ≤ length xs → a < 256 → b < 256 → c < 256 → d < 256 →
    field (set (set (set (set xs k a) (k + 1) b) (k + 2) c) (k + 3) d) (8 * k) 32 ≡ ((a * 256 + b) * 256 + c) * 256 + d
field_put xs k a b c d h ha hb hc hd =
    let ys = set (set (set (set xs k a) (k + 1) b) (k + 2) c) (k + 3) d in
    let e0 : get_or ys k 0 ≡ a = grind (arith, common_steps) in
    let e1 : get_or ys (k + 1) 0 ≡ b = grind (arith, common_steps) in
    let e2 : get_or ys (k + 2) 0 ≡ c = grind (arith, common_steps) in
    let e3 : get_or ys (k + 3) 0 ≡ d = grind (arith, common_steps) in
    let w = field_word ys k (get_is ys k a e0 ha) (get_is ys (k + 1) b e1 hb) (get_is ys (k + 2) c e2 hc) (get_is ys (k + 3) d e3 hd) in
    w ∙ rw (e0, e1, e2, e3) refl

-- one more byte
pub field_more_byte : (bytes : List ℕ) (at k b : ℕ) → get_or bytes (at + k) 0 ≡ b → b < 256 → field bytes (8 * at) (8 * (k + 1)) ≡ field bytes (8 * at) (8 * k) * 256 + b
field_more_byte bytes at k b e h =
    let sum : 8 * (k + 1) ≡ 8 * k + 8 = omega arith in
    let place : 8 * at + 8 * k ≡ 8 * (at + k) = omega arith in
    let byte : field bytes (8 * at + 8 * k) 8 ≡ b = ap (λ i. field bytes i 8) place ∙ field_byte bytes (at + k) (get_is bytes (at + k) b e h) ∙ e in
    ap (field bytes (8 * at)) sum ∙ field_split bytes (8 * at) (8 * k) 8 ∙ ap (λ x. field bytes (8 * at) (8 * k) * 256 + x) byte

-- a field before the bytes that were written
pub field_kept : (xs ys : List ℕ) (at count i n : ℕ) → ((k : ℕ) → (k < at) ⊎ (at + count ≤ k) → get_or xs k 0 ≡ get_or ys k 0) → i + n ≤ 8 * at → field xs i n ≡ field ys i n
field_kept xs ys at count i n h fits = field_same xs ys i n (λ k low high. h k (inl (omega arith)))

pub field_take : (xs : List ℕ) (m i n : ℕ) → i + n ≤ 8 * m → field (take m xs) i n ≡ field xs i n
field_take xs m i n h = field_same (take m xs) xs i n (λ k low high. get_or-take m xs k 0 (omega arith))

-- a field of the bytes from a place on
pub field_drop : (xs : List ℕ) (k i n : ℕ) → field (drop k xs) i n ≡ field xs (8 * k + i) n
unfolding field
field_drop xs k i zero = refl
field_drop xs k i (suc n) =
    let before = field_drop xs k i n in
    let byte : (8 * k + i + n) / 8 ≡ k + (i + n) / 8 = omega arith in
    let place : (8 * k + i + n) % 8 ≡ (i + n) % 8 = omega arith in
    rw (before, byte, place, get_or-drop k xs ((i + n) / 8) 0) refl
