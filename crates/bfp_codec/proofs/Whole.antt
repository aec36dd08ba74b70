-- The bytes of a whole block from its three groups, and its samples from them.
use Rattle.std.proofs.Common.{◌≡◌, ℕ, ℤ, pos, ◌+◌, ◌*◌, ◌^◌, ◌<◌, ◌≤◌, ◌*ℤ◌, List, ◌∷◌, length, get_or, sym, ap, ◌∙◌, arith}
use Rattle.bfp_codec.specs.Field.{field, signed, digits}
use Rattle.bfp_codec.proofs.Field.{field_byte}
use Rattle.bfp_codec.proofs.Same.{digits_same}
use Rattle.bfp_codec.specs.declared.samples.Iq.{Iq}
use Rattle.bfp_codec.specs.declared.samples.Wide.{Wide}
use Rattle.bfp_codec.specs.declared.methods.Method.TheVariants.{Plain, Bfp}
use Rattle.bfp_codec.specs.Samples.{component, no_wide, pair_of}
use Rattle.bfp_codec.specs.Exponent.{floor_of, exponent_of}
use Rattle.bfp_codec.specs.Layout.{twos, number_bytes, packed_of, unpacked_of}
use Rattle.bfp_codec.specs.Eight.{value_in, number_in}
use Rattle.bfp_codec.proofs.Spelled.{three_groups, packed_bytes, plain_bytes}
use Rattle.bfp_codec.proofs.Groups.{group_read, three_fours, by_samples}

-- the first group's numbers, counted from 0
from_zero : (w n : ℕ) (f : ℕ → ℕ) → n ≡ digits w (λ k. f (0 + k)) 8 → n ≡ digits w f 8
from_zero w n f e = e ∙ digits_same w (λ k. f (0 + k)) f 8 (λ k h. let same : 0 + k ≡ k = omega arith in ap f same)

pub packed_whole : (w e : ℕ) (block : List Iq) (all : List ℕ) → length all ≡ 1 + 3 * w → ((i : ℕ) → get_or all i 0 < 256) → e ≤ 15 → get_or all 0 0 ≡ e
    → field all (8 * 1) (8 * w) ≡ digits w (λ k. twos w (floor_of (component block (0 + k)) e)) 8
    → field all (8 * (1 + w)) (8 * w) ≡ digits w (λ k. twos w (floor_of (component block (8 + k)) e)) 8
    → field all (8 * (1 + 2 * w)) (8 * w) ≡ digits w (λ k. twos w (floor_of (component block (16 + k)) e)) 8
    → e ≡ exponent_of w block → all ≡ packed_of (Bfp w) block
unfolding packed_of
packed_whole w e block all len small e_small first a b d is =
    let f : ℕ → ℕ = λ k. twos w (floor_of (component block k) e) in
    let second : 8 + 8 * w ≡ 8 * (1 + w) = omega arith in
    let third : 8 + 16 * w ≡ 8 * (1 + 2 * w) = omega arith in
    let numbers = three_groups all 8 w f (from_zero w (field all 8 (8 * w)) f a) (ap (λ i. field all i (8 * w)) second ∙ b) (ap (λ i. field all i (8 * w)) third ∙ d) in
    packed_bytes w e (λ k. floor_of (component block k) e) all len small (omega arith) (field_byte all 0 (small 0) ∙ first) numbers
    ∙ ap (λ n. n ∷ number_bytes w (λ k. floor_of (component block k) n)) is

pub plain_whole : (block : List Iq) (all : List ℕ) → length all ≡ 48 → ((i : ℕ) → get_or all i 0 < 256)
    → field all 0 128 ≡ digits 16 (λ k. twos 16 (component block (0 + k))) 8 → field all 128 128 ≡ digits 16 (λ k. twos 16 (component block (8 + k))) 8
    → field all 256 128 ≡ digits 16 (λ k. twos 16 (component block (16 + k))) 8 → all ≡ packed_of Plain block
unfolding packed_of
plain_whole block all len small a b d =
    let f : ℕ → ℕ = λ k. twos 16 (component block k) in
    let numbers = three_groups all 0 16 f (from_zero 16 (field all 0 128) f a) b d in
    plain_bytes (component block) all len small numbers

pub unpacked_whole : (w e n0 n1 n2 : ℕ) (bytes : List ℕ) (values : List Wide) → length values ≡ 12 → e ≡ field bytes 4 4
    → n0 ≡ field bytes (8 * 1) (8 * w) → n1 ≡ field bytes (8 * (1 + w)) (8 * w) → n2 ≡ field bytes (8 * (1 + 2 * w)) (8 * w)
    → ((j : ℕ) → j < 4 → get_or values (0 + j) no_wide ≡ pair_of (value_in n0 w e) j)
    → ((j : ℕ) → j < 4 → get_or values (4 + j) no_wide ≡ pair_of (value_in n1 w e) j)
    → ((j : ℕ) → j < 4 → get_or values (8 + j) no_wide ≡ pair_of (value_in n2 w e) j)
    → values ≡ unpacked_of (Bfp w) bytes
unfolding unpacked_of
unpacked_whole w e n0 n1 n2 bytes values len e_is is0 is1 is2 a b d =
    let f : ℕ → ℤ = λ k. signed w (field bytes (8 + w * k) w) *ℤ pos (2 ^ field bytes 4 4) in
    let scale : (k : ℕ) → signed w (field bytes (8 + w * k) w) *ℤ pos (2 ^ e) ≡ f k = λ k. ap (λ n. signed w (field bytes (8 + w * k) w) *ℤ pos (2 ^ n)) e_is in
    let place : (k m : ℕ) → w * (m + k) ≡ w * m + w * k = λ k m. grind arith in
    three_fours values f (value_in n0 w e) (value_in n1 w e) (value_in n2 w e) len a b d
    (λ k h. group_read bytes 1 (8 + w * (0 + k)) w n0 e k is0 h (omega (arith, place k 0)) ∙ scale (0 + k))
    (λ k h. group_read bytes (1 + w) (8 + w * (8 + k)) w n1 e k is1 h (omega (arith, place k 8)) ∙ scale (8 + k))
    (λ k h. group_read bytes (1 + 2 * w) (8 + w * (16 + k)) w n2 e k is2 h (omega (arith, place k 16)) ∙ scale (16 + k))

pub unpacked_words : (w e : ℕ) (bytes : List ℕ) (values : List Wide) → length values ≡ 12 → e ≡ field bytes 4 4
    → ((j : ℕ) → j < 4 → get_or values (0 + j) no_wide ≡ pair_of (number_in bytes 1 w e) j)
    → ((j : ℕ) → j < 4 → get_or values (4 + j) no_wide ≡ pair_of (number_in bytes (1 + w) w e) j)
    → ((j : ℕ) → j < 4 → get_or values (8 + j) no_wide ≡ pair_of (number_in bytes (1 + 2 * w) w e) j)
    → values ≡ unpacked_of (Bfp w) bytes
unfolding unpacked_of
unpacked_words w e bytes values len e_is a b d =
    let f : ℕ → ℤ = λ k. signed w (field bytes (8 + w * k) w) *ℤ pos (2 ^ field bytes 4 4) in
    let is : (at i k : ℕ) → 8 * at + w * k ≡ i → signed w (field bytes (8 * at + w * k) w) *ℤ pos (2 ^ e) ≡ signed w (field bytes i w) *ℤ pos (2 ^ field bytes 4 4) = λ at i k place.
    ap (λ j. signed w (field bytes j w) *ℤ pos (2 ^ e)) place ∙ ap (λ n. signed w (field bytes i w) *ℤ pos (2 ^ n)) e_is in
    let place : (k m : ℕ) → w * (m + k) ≡ w * m + w * k = λ k m. grind arith in
    three_fours values f (number_in bytes 1 w e) (number_in bytes (1 + w) w e) (number_in bytes (1 + 2 * w) w e) len a b d
    (λ k h. is 1 (8 + w * (0 + k)) k (omega (arith, place k 0)))
    (λ k h. is (1 + w) (8 + w * (8 + k)) k (omega (arith, place k 8)))
    (λ k h. is (1 + 2 * w) (8 + w * (16 + k)) k (omega (arith, place k 16)))

-- number k of a block that is not compressed
abbrev pub plain_in : List ℕ → ℕ → ℤ
plain_in bytes k = signed 16 (field bytes (16 * k) 16)

pub plain_place : (bytes : List ℕ) (at k : ℕ) → at ≡ 2 * k → signed 16 (field bytes (8 * at) 16) ≡ plain_in bytes k
plain_place bytes at k is =
    let place : 8 * at ≡ 16 * k = omega arith in
    ap (λ i. signed 16 (field bytes i 16)) place

-- its samples, one by one
pub unpacked_plain : (bytes : List ℕ) (values : List Wide) → length values ≡ 12 → ((j : ℕ) → j < 12 → get_or values (0 + j) no_wide ≡ pair_of (plain_in bytes) j) → values ≡ unpacked_of Plain bytes
unfolding unpacked_of
unpacked_plain bytes values len is = by_samples values (plain_in bytes) len (λ j lt. let same : 0 + j ≡ j = omega arith in ap (λ i. get_or values i no_wide) (sym same) ∙ is j lt)
