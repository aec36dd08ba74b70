-- Groups of eight numbers of w bits: w bytes.
use Rattle.std.proofs.Common.{◌≡◌, ℕ, ℤ, pos, ◌+◌, ◌-◌, ◌*◌, ◌/◌, ◌%◌, ◌^◌, ◌<◌, ◌≤◌, ◌*ℤ◌, List, length, get_or, bit_and, bit_or, inl, inr, refl, sym, ap, subst, ◌∙◌, arith}
use Rattle.std.proofs.lemmas.Bool.{cases_lt}
use Rattle.std.proofs.lemmas.List.{ext_get_or}
use Rattle.std.proofs.lemmas.Nat.{mul-le, pow-add, shl_whole, shr-shr, shr_below, and_mask, shr_split, or_shifted}
use Rattle.std.proofs.Math.Nat.{mod-eq_of_lt}
use Rattle.bfp_codec.specs.Field.{field, signed, digits}
use Rattle.bfp_codec.proofs.Same.{digits_same}
use Rattle.bfp_codec.proofs.Spelled.{digits_split}
use Rattle.bfp_codec.proofs.Field.{field_of_field, field_split, field_fits}
use Rattle.bfp_codec.specs.declared.samples.Wide.{Wide}
use Rattle.bfp_codec.specs.Samples.{no_wide, pair_of, wide_block}
use Rattle.bfp_codec.specs.Eight.{value_in, four_in, number_in}
use Rattle.bfp_codec.proofs.Blocks.{length-wide_block, get_or-wide_block, pair_same}

-- the first eight bytes of a number
pub front_fits : (w n : ℕ) → 8 ≤ w → n < 2 ^ (8 * w) → n / 2 ^ (8 * (w - 8)) < 2 ^ 64
front_fits w n low fits =
    let sum : 8 * w ≡ 64 + 8 * (w - 8) = omega arith in
    shr_below n 64 (8 * (w - 8)) (subst (λ k. n < 2 ^ k) sum fits)

-- a number from its first eight bytes and its last eight
pub words_written : (first all : List ℕ) (at w n : ℕ) → 8 ≤ w → w ≤ 16 → n < 2 ^ (8 * w) → field first (8 * at) 64 ≡ n / 2 ^ (8 * (w - 8))
    → field all (8 * at) (8 * (w - 8)) ≡ field first (8 * at) (8 * (w - 8)) → field all (8 * (at + w - 8)) 64 ≡ bit_and n 18446744073709551615 → field all (8 * at) (8 * w) ≡ n
words_written first all at w n low high fits front kept back =
    let m = 8 * (w - 8) in
    let sum : 8 * w ≡ m + 64 = omega arith in
    let place : 8 * at + m ≡ 8 * (at + w - 8) = omega arith in
    let start : 8 * at ≡ 8 * at + 0 = omega arith in
    let rest = 64 - (0 + m) in
    let both : m + rest ≡ 64 = omega arith in
    let cut : field first (8 * at + 0) m ≡ field first (8 * at) 64 / 2 ^ rest % 2 ^ m = field_of_field first (8 * at) 64 0 m (omega arith) in
    let small : n / 2 ^ 64 < 2 ^ m = shr_below n m 64 (subst (λ k. n < 2 ^ k) sum fits) in
    let head : field all (8 * at) m ≡ n / 2 ^ 64 =
    kept ∙ ap (λ i. field first i m) start ∙ cut ∙ ap (λ x. x / 2 ^ rest % 2 ^ m) front ∙ ap (λ x. x % 2 ^ m) (shr-shr n m rest ∙ ap (λ k. n / 2 ^ k) both) ∙ mod-eq_of_lt small in
    let last : field all (8 * at + m) 64 ≡ n % 2 ^ 64 = ap (λ i. field all i 64) place ∙ back ∙ and_mask n 64 in
    let split = shr_split n 64 in
    ap (field all (8 * at)) sum ∙ field_split all (8 * at) m 64 ∙ omega (arith, head, last, split)

-- two digits, by a shift and an `|` at 32 bits
pub two_ones : (w : ℕ) (f : ℕ → ℕ) (n m : ℕ) → w ≤ 16 → n ≡ f 0 → m ≡ f 1 → n < 2 ^ w → m < 2 ^ w → bit_or (n * 2 ^ w % 2 ^ 32) m ≡ digits w f 2
unfolding digits
two_ones w f n m high n_is m_is n_small m_small =
    let first : n ≡ 0 * 2 ^ w + f 0 = omega (arith, n_is) in
    ap (λ x. bit_or x m) (shl_whole n w w 32 n_small (omega arith)) ∙ or_shifted n w m m_small
    ∙ ap (λ x. x * 2 ^ w + m) first ∙ ap (λ y. (0 * 2 ^ w + f 0) * 2 ^ w + y) m_is

-- four digits from two and two
pub two_pairs : (w first n m : ℕ) (f : ℕ → ℕ) → w ≤ 16 → n < 2 ^ (2 * w) → m < 2 ^ (2 * w) → (a b : ℕ) → a ≡ first → b ≡ first + 2
    → n ≡ digits w (λ k. f (a + k)) 2 → m ≡ digits w (λ k. f (b + k)) 2 → bit_or (n * 2 ^ (2 * w) % 2 ^ 64) m ≡ digits w (λ k. f (first + k)) 4
two_pairs w first n m f high n_small m_small a b a_is b_is n_is m_is =
    let g : ℕ → ℕ = λ k. f (first + k) in
    let whole : n * 2 ^ (2 * w) % 2 ^ 64 ≡ n * 2 ^ (2 * w) = shl_whole n (2 * w) (2 * w) 64 n_small (omega arith) in
    let turned : w * 2 ≡ 2 * w = omega arith in
    let front : n ≡ digits w g 2 = n_is ∙ digits_same w (λ k. f (a + k)) g 2 (λ k h. let at : a + k ≡ first + k = omega arith in ap f at) in
    let back : m ≡ digits w (λ k. g (2 + k)) 2 = m_is ∙ digits_same w (λ k. f (b + k)) (λ k. g (2 + k)) 2 (λ k h. let at : b + k ≡ first + (2 + k) = omega arith in ap f at) in
    ap (λ x. bit_or x m) whole ∙ or_shifted n (2 * w) m m_small ∙ ap (λ x. x * 2 ^ (2 * w) + m) front ∙ ap (λ x. digits w g 2 * 2 ^ (2 * w) + x) back
    ∙ sym (digits_split w g 2 2 ∙ ap (λ j. digits w g 2 * 2 ^ j + digits w (λ k. g (2 + k)) 2) turned)

-- two numbers side by side
module _ (size k n m : ℕ) (room : k + k ≤ size) (n_small : n < 2 ^ k) (m_small : m < 2 ^ k) where
  beside_fits : bit_or (n * 2 ^ k % 2 ^ size) m < 2 ^ (k + k)
  beside_fits =
      let whole : bit_or (n * 2 ^ k % 2 ^ size) m ≡ n * 2 ^ k + m = ap (λ x. bit_or x m) (shl_whole n k k size n_small room) ∙ or_shifted n k m m_small in
      let rows : (n + 1) * 2 ^ k ≤ 2 ^ k * 2 ^ k = mul-le (n + 1) (2 ^ k) (2 ^ k) (2 ^ k) (omega arith) (omega arith) in
      let square : 2 ^ (k + k) ≡ 2 ^ k * 2 ^ k = pow-add 2 k k in
      omega (arith, whole, rows, square, m_small)

pub or_fits : (k n m : ℕ) → k + k ≤ 64 → n < 2 ^ k → m < 2 ^ k → bit_or (n * 2 ^ k % 2 ^ 64) m < 2 ^ (k + k)
or_fits k n m = beside_fits 64 k n m

pub wide_fits : (k n m : ℕ) → k + k ≤ 128 → n < 2 ^ k → m < 2 ^ k → bit_or (n * 2 ^ k % 2 ^ 128) m < 2 ^ (k + k)
wide_fits k n m = beside_fits 128 k n m

-- eight digits from four and four
pub two_fours : (w first n m : ℕ) (f : ℕ → ℕ) → w ≤ 16 → n < 2 ^ (4 * w) → m < 2 ^ (4 * w) → (a b : ℕ) → a ≡ first → b ≡ first + 4
    → n ≡ digits w (λ k. f (a + k)) 4 → m ≡ digits w (λ k. f (b + k)) 4 → bit_or (n * 2 ^ (4 * w) % 2 ^ 128) m ≡ digits w (λ k. f (first + k)) 8
two_fours w first n m f high n_small m_small a b a_is b_is n_is m_is =
    let g : ℕ → ℕ = λ k. f (first + k) in
    let whole : n * 2 ^ (4 * w) % 2 ^ 128 ≡ n * 2 ^ (4 * w) = shl_whole n (4 * w) (4 * w) 128 n_small (omega arith) in
    let turned : w * 4 ≡ 4 * w = omega arith in
    let front : n ≡ digits w g 4 = n_is ∙ digits_same w (λ k. f (a + k)) g 4 (λ k h. let at : a + k ≡ first + k = omega arith in ap f at) in
    let back : m ≡ digits w (λ k. g (4 + k)) 4 = m_is ∙ digits_same w (λ k. f (b + k)) (λ k. g (4 + k)) 4 (λ k h. let at : b + k ≡ first + (4 + k) = omega arith in ap f at) in
    ap (λ x. bit_or x m) whole ∙ or_shifted n (4 * w) m m_small ∙ ap (λ x. x * 2 ^ (4 * w) + m) front ∙ ap (λ x. digits w g 4 * 2 ^ (4 * w) + x) back
    ∙ sym (digits_split w g 4 4 ∙ ap (λ j. digits w g 4 * 2 ^ j + digits w (λ k. g (4 + k)) 4) turned)

-- number k of a group
pub group_read : (bytes : List ℕ) (at i w n e k : ℕ) → n ≡ field bytes (8 * at) (8 * w) → k < 8 → i ≡ 8 * at + w * k → value_in n w e k ≡ signed w (field bytes i w) *ℤ pos (2 ^ e)
group_read bytes at i w n e k n_is h place =
    let seven : 7 ≡ k + (7 - k) = omega arith in
    let product : w * 7 ≡ w * k + w * (7 - k) = grind (arith, ap (λ j. w * j) seven) in
    let cut : field bytes (8 * at + w * k) w ≡ field bytes (8 * at) (8 * w) / 2 ^ (8 * w - (w * k + w)) % 2 ^ w = field_of_field bytes (8 * at) (8 * w) (w * k) w (omega (arith, product)) in
    let rest : 8 * w - (w * k + w) ≡ w * (7 - k) = omega (arith, product) in
    ap (λ x. signed w x *ℤ pos (2 ^ e))
    (ap (λ x. x / 2 ^ (w * (7 - k)) % 2 ^ w) n_is ∙ ap (λ j. field bytes (8 * at) (8 * w) / 2 ^ j % 2 ^ w) (sym rest) ∙ sym cut ∙ ap (λ j. field bytes j w) (sym place))

-- eight bytes from four and four
pub word_of_halves : (bytes : List ℕ) (at n m : ℕ) → n ≡ field bytes (8 * at) 32 → m ≡ field bytes (8 * (at + 4)) 32 → bit_or (n * 2 ^ 32 % 2 ^ 64) m ≡ field bytes (8 * at) 64
word_of_halves bytes at n m n_is m_is =
    let place : 8 * (at + 4) ≡ 8 * at + 32 = omega arith in
    let high : n < 2 ^ 32 = rw n_is (field_fits bytes (8 * at) 32) in
    let low : m < 2 ^ 32 = rw m_is (field_fits bytes (8 * (at + 4)) 32) in
    ap (λ x. bit_or x m) (shl_whole n 32 32 64 high (omega arith)) ∙ or_shifted n 32 m low
    ∙ ap (λ x. x * 2 ^ 32 + m) n_is ∙ ap (λ x. field bytes (8 * at) 32 * 2 ^ 32 + x) (m_is ∙ ap (λ i. field bytes i 32) place)
    ∙ sym (field_split bytes (8 * at) 32 32)

parts : (w k a : ℕ) → k ≤ a → w * a ≡ w * k + w * (a - k)
parts w k a h =
    let sum : a ≡ k + (a - k) = omega arith in
    grind (arith, ap (λ j. w * j) sum)

-- number k of a group, from the eight bytes that it begins with
pub first_read : (bytes : List ℕ) (at w word n e k : ℕ) → w ≤ 16 → k < 4 → word ≡ field bytes (8 * at) 64 → n ≡ word / 2 ^ (64 - 4 * w) → four_in n w e k ≡ number_in bytes at w e k
first_read bytes at w word n e k high h word_is n_is =
    let product = parts w k 3 (omega arith) in
    let cut : field bytes (8 * at + w * k) w ≡ field bytes (8 * at) 64 / 2 ^ (64 - (w * k + w)) % 2 ^ w = field_of_field bytes (8 * at) 64 (w * k) w (omega (arith, product)) in
    let rest : 64 - 4 * w + w * (3 - k) ≡ 64 - (w * k + w) = omega (arith, product) in
    ap (λ x. signed w (x % 2 ^ w) *ℤ pos (2 ^ e))
    (ap (λ x. x / 2 ^ (w * (3 - k))) n_is ∙ shr-shr word (64 - 4 * w) (w * (3 - k)) ∙ ap (λ j. word / 2 ^ j) rest ∙ ap (λ x. x / 2 ^ (64 - (w * k + w))) word_is)
    ∙ ap (λ x. signed w x *ℤ pos (2 ^ e)) (sym cut)

-- number 4 + k of a group, from the eight bytes that it ends with
pub last_read : (bytes : List ℕ) (at w word e k : ℕ) → 8 ≤ w → w ≤ 16 → k < 4 → word ≡ field bytes (8 * (at + w - 8)) 64 → four_in word w e k ≡ number_in bytes at w e (4 + k)
last_read bytes at w word e k low high h word_is =
    let product = parts w k 3 (omega arith) in
    let from = 8 * (at + w - 8) in
    let skipped = 64 - (w * (3 - k) + w) in
    let more : w * (4 + k) ≡ 4 * w + w * k = grind arith in
    let cut : field bytes (from + skipped) w ≡ field bytes from 64 / 2 ^ (64 - (skipped + w)) % 2 ^ w = field_of_field bytes from 64 skipped w (omega (arith, product)) in
    let rest : 64 - (skipped + w) ≡ w * (3 - k) = omega (arith, product) in
    let place : from + skipped ≡ 8 * at + w * (4 + k) = omega (arith, product, more) in
    ap (λ x. signed w x *ℤ pos (2 ^ e))
    (ap (λ x. x / 2 ^ (w * (3 - k)) % 2 ^ w) word_is ∙ ap (λ j. field bytes from 64 / 2 ^ j % 2 ^ w) (sym rest) ∙ sym cut ∙ ap (λ j. field bytes j w) place)

-- four samples from two and two
pub two_twos : (values mid : List Wide) (from : ℕ) (f g h : ℕ → ℤ) → ((j : ℕ) → j < 2 → get_or mid (from + j) no_wide ≡ pair_of g j) → ((j : ℕ) → j < from + 2 → get_or values j no_wide ≡ get_or mid j no_wide)
    → ((j : ℕ) → j < 2 → get_or values (from + 2 + j) no_wide ≡ pair_of h j) → ((k : ℕ) → k < 4 → g k ≡ f k) → ((k : ℕ) → k < 4 → h k ≡ f (4 + k)) → (j : ℕ) → j < 4 → get_or values (from + j) no_wide ≡ pair_of f j
two_twos values mid from f g h a kept b first last j lt = elim (cases_lt j 2) [
  | inl below ↦ kept (from + j) (omega arith) ∙ a j below ∙ pair_same g f j (first (2 * j) (omega arith)) (first (2 * j + 1) (omega arith))
  | inr above ↦
      let at : from + 2 + (j - 2) ≡ from + j = omega arith in
      let i : 4 + 2 * (j - 2) ≡ 2 * j = omega arith in
      let q : 4 + (2 * (j - 2) + 1) ≡ 2 * j + 1 = omega arith in
      ap (λ n. get_or values n no_wide) (sym at) ∙ b (j - 2) (omega arith)
      ∙ pair_is (last (2 * (j - 2)) (omega arith) ∙ ap f i) (last (2 * (j - 2) + 1) (omega arith) ∙ ap f q)
]
  where
    pair_is : h (2 * (j - 2)) ≡ f (2 * j) → h (2 * (j - 2) + 1) ≡ f (2 * j + 1) → pair_of h (j - 2) ≡ pair_of f j
    pair_is a b = rw (a, b) refl

-- twelve samples, one by one
pub by_samples : (values : List Wide) (f : ℕ → ℤ) → length values ≡ 12 → ((j : ℕ) → j < 12 → get_or values j no_wide ≡ pair_of f j) → values ≡ wide_block f
by_samples values f len is =
    ext_get_or no_wide values (wide_block f) (len ∙ sym (length-wide_block f)) (λ j lt.
    let below : j < 12 = omega (arith, len) in
    is j below ∙ sym (get_or-wide_block f j no_wide below))

-- four samples that are four of a block
four_of : (values : List Wide) (from : ℕ) (f g : ℕ → ℤ) → ((j : ℕ) → j < 4 → get_or values (from + j) no_wide ≡ pair_of g j) → ((k : ℕ) → k < 8 → g k ≡ f (2 * from + k))
    → (j : ℕ) → from ≤ j → j < from + 4 → get_or values j no_wide ≡ pair_of f j
four_of values from f g there same j low high =
    let at : from + (j - from) ≡ j = omega arith in
    let i : 2 * from + 2 * (j - from) ≡ 2 * j = omega arith in
    let q : 2 * from + (2 * (j - from) + 1) ≡ 2 * j + 1 = omega arith in
    ap (λ n. get_or values n no_wide) (sym at) ∙ there (j - from) (omega arith)
    ∙ (let p : pair_of g (j - from) ≡ pair_of f j = pair_at (same (2 * (j - from)) (omega arith) ∙ ap f i) (same (2 * (j - from) + 1) (omega arith) ∙ ap f q) in p)
  where
    pair_at : g (2 * (j - from)) ≡ f (2 * j) → g (2 * (j - from) + 1) ≡ f (2 * j + 1) → pair_of g (j - from) ≡ pair_of f j
    pair_at a b = rw (a, b) refl

-- twelve samples in three groups
pub three_fours : (values : List Wide) (f g0 g1 g2 : ℕ → ℤ) → length values ≡ 12
    → ((j : ℕ) → j < 4 → get_or values (0 + j) no_wide ≡ pair_of g0 j) → ((j : ℕ) → j < 4 → get_or values (4 + j) no_wide ≡ pair_of g1 j) → ((j : ℕ) → j < 4 → get_or values (8 + j) no_wide ≡ pair_of g2 j)
    → ((k : ℕ) → k < 8 → g0 k ≡ f (0 + k)) → ((k : ℕ) → k < 8 → g1 k ≡ f (8 + k)) → ((k : ℕ) → k < 8 → g2 k ≡ f (16 + k))
    → values ≡ wide_block f
three_fours values f g0 g1 g2 len a b d fa fb fd =
    ext_get_or no_wide values (wide_block f) (len ∙ sym (length-wide_block f)) (λ j lt.
    let below : j < 12 = omega (arith, len) in
    let here : get_or values j no_wide ≡ pair_of f j = elim (cases_lt j 4) [
      | inl h ↦ four_of values 0 f g0 a fa j (omega arith) (omega arith)
      | inr h ↦ elim (cases_lt j 8) [
        | inl g ↦ four_of values 4 f g1 b fb j h (omega arith)
        | inr g ↦ four_of values 8 f g2 d fd j g (omega arith)
      ]
    ] in
    here ∙ sym (get_or-wide_block f j no_wide below))
