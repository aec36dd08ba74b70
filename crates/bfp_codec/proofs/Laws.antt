-- What compression keeps of a block.
use Rattle.std.proofs.Common.{◌≡◌, ℕ, ℤ, pos, negsuc, zero, suc, ◌+◌, ◌-◌, ◌*◌, ◌/◌, ◌^◌, ◌<◌, ◌≤◌, ◌*ℤ◌, List, ◌∷◌, get_or, length, inl, inr, sym, ap, subst, ◌∙◌, arith}
use Rattle.std.proofs.lemmas.Int.{ints}
use Rattle.std.proofs.lemmas.Nat.{pow_pos, pow-add, shr_split, mod_below, shl-shr, div-mul-add, mul-le}
use Rattle.std.proofs.lemmas.Bool.{cases_lt}
use Rattle.std.proofs.Math.IntN.{pos-*ℤ-pos}
use Rattle.std.proofs.Math.Nat.{mul_assoc}
use Rattle.bfp_codec.specs.Field.{field}
use Rattle.bfp_codec.proofs.Same.{digits_same}
use Rattle.bfp_codec.specs.declared.samples.Iq.{Iq}
use Rattle.bfp_codec.specs.declared.methods.Method.{Method}
use Rattle.bfp_codec.specs.declared.methods.Method.TheVariants.{Plain, Bfp}
use Rattle.bfp_codec.specs.Samples.{component, samples_of}
use Rattle.bfp_codec.specs.Magnitude.{magnitude_of}
use Rattle.bfp_codec.specs.Exponent.{floor_of, Within, BlockFits, IsExponent, exponent_of, mantissa}
use Rattle.bfp_codec.specs.Layout.{HasWidth, length_of, twos, be_bytes, number_bytes, packed_of, unpacked_of, IsLaidOut}
use Rattle.bfp_codec.specs.Shrunk.{shrunk_at, shrunk_number, shrunk, step_of, IsNear, KeepsBytes, CanPack}
use Rattle.bfp_codec.proofs.Magnitudes.{within_of, of_within, under, power_le}
use Rattle.bfp_codec.proofs.Fitting.{has_exponent, exponent_is}
use Rattle.bfp_codec.proofs.Blocks.{wide_block_same, component_again, length-wide_block}
use Rattle.bfp_codec.proofs.Spelled.{spells_packed, spells_plain, length-number_bytes, number_bytes_small}
use Rattle.bfp_codec.proofs.Twos.{magnitude_fits}

pub length_packed : (method : Method) (block : List Iq) → length (packed_of method block) ≡ length_of method
unfolding packed_of
length_packed Plain block = length-number_bytes 16 (component block)
length_packed (Bfp w) block = omega (arith, length-number_bytes w (mantissa w block))

pub laid_out : (method : Method) (block : List Iq) → CanPack method block → IsLaidOut method block (packed_of method block)
unfolding packed_of
laid_out Plain block can = spells_plain (component block) can
laid_out (Bfp w) block can = spells_packed w (exponent_of w block) (mantissa w block) can.0 can.1.small can.1.fits

-- what was packed is unpacked as the shrunk block
pub unpacked_packed : (method : Method) (block : List Iq) → CanPack method block → unpacked_of method (packed_of method block) ≡ shrunk method block
unfolding unpacked_of shrunk
unpacked_packed Plain block can = wide_block_same _ (component block) (laid_out Plain block can).numbers
unpacked_packed (Bfp w) block can =
    let s = laid_out (Bfp w) block can in
    let bytes = packed_of (Bfp w) block in
    wide_block_same _ (shrunk_number (Bfp w) block) (λ k h.
    ap (λ z. z *ℤ pos (2 ^ field bytes 4 4)) (s.numbers k h) ∙ ap (λ j. mantissa w block k *ℤ pos (2 ^ j)) s.exponent)

near_at : (z : ℤ) (e : ℕ) → IsNear e (shrunk_at e z) z
near_at (pos n) e =
    let split = shr_split n e in
    let rest = mod_below n (2 ^ e) (pow_pos e) in
    record { most = omega (arith, ints); lost = omega (arith, ints) }
near_at (negsuc n) e =
    let split = shr_split n e in
    let rest = mod_below n (2 ^ e) (pow_pos e) in
    record { most = omega (arith, ints); lost = omega (arith, ints) }

near_itself : (z : ℤ) → IsNear 0 z z
near_itself (pos n) = record { most = omega (arith, ints); lost = omega (arith, ints) }
near_itself (negsuc n) = record { most = omega (arith, ints); lost = omega (arith, ints) }

pub shrunk_near : (method : Method) (block : List Iq) (k : ℕ) → IsNear (step_of method block) (shrunk_number method block k) (component block k)
shrunk_near Plain block k = near_itself (component block k)
shrunk_near (Bfp w) block k = near_at (component block k) (exponent_of w block)

-- a negative number times a positive one
product_below : (q d : ℕ) → 0 < d → negsuc q *ℤ pos d ≡ negsuc (q * d + (d - 1))
product_below q d h = omega (arith, ints)

pub floor_product : (z : ℤ) (e : ℕ) → floor_of (z *ℤ pos (2 ^ e)) e ≡ z
floor_product (pos n) e = ap pos (shl-shr n e)
floor_product (negsuc n) e =
    let d = 2 ^ e in
    ap (λ z. floor_of z e) (product_below n d (pow_pos e)) ∙ ap negsuc (div-mul-add n d (d - 1) (omega (arith, pow_pos e)))

floor_shrunk : (z : ℤ) (e : ℕ) → floor_of (shrunk_at e z) e ≡ floor_of z e
floor_shrunk z e = floor_product (floor_of z e) e

times_times : (z : ℤ) (a b : ℕ) → 0 < a → 0 < b → (z *ℤ pos a) *ℤ pos b ≡ z *ℤ pos (a * b)
times_times (pos n) a b ha hb = ap (λ z. z *ℤ pos b) (pos-*ℤ-pos n a) ∙ pos-*ℤ-pos (n * a) b ∙ ap pos (mul_assoc n a b) ∙ sym (pos-*ℤ-pos n (a * b))
times_times (negsuc n) a b ha hb =
    let p = a - 1 in
    let more : a ≡ p + 1 = omega arith in
    let left : (n * a + p) * b ≡ n * (a * b) + p * b = grind arith in
    let right : a * b ≡ p * b + b = ap (λ x. x * b) more ∙ (let r : (p + 1) * b ≡ p * b + b = grind arith in r) in
    let same : (n * a + p) * b + (b - 1) ≡ n * (a * b) + (a * b - 1) = omega (arith, left, right) in
    ap (λ z. z *ℤ pos b) (product_below n a ha) ∙ product_below (n * a + p) b hb ∙ ap negsuc same ∙ sym (product_below n (a * b) (omega (arith, right)))

-- to drop fewer digits than were dropped changes nothing
shrunk_again : (z : ℤ) (d e : ℕ) → d ≤ e → shrunk_at d (shrunk_at e z) ≡ shrunk_at e z
shrunk_again z d e h =
    let q = floor_of z e in
    let power : 2 ^ e ≡ 2 ^ (e - d) * 2 ^ d = let sum : e ≡ e - d + d = omega arith in ap (λ j. 2 ^ j) sum ∙ pow-add 2 (e - d) d in
    let split : q *ℤ pos (2 ^ e) ≡ (q *ℤ pos (2 ^ (e - d))) *ℤ pos (2 ^ d) = ap (λ n. q *ℤ pos n) power ∙ sym (times_times q (2 ^ (e - d)) (2 ^ d) (pow_pos (e - d)) (pow_pos d)) in
    ap (shrunk_at d) split ∙ ap (λ y. y *ℤ pos (2 ^ d)) (floor_product (q *ℤ pos (2 ^ (e - d))) d) ∙ sym split

-- a shrunk number that fits two bits below the top shows that the number did
shrunk_small : (z : ℤ) (e p : ℕ) → magnitude_of (shrunk_at e z) < 2 ^ (p + e) → magnitude_of z < 2 ^ (p + e)
shrunk_small (pos n) e p h =
    let split = shr_split n e in
    let below : n / 2 ^ e < 2 ^ p =
    elim (cases_lt (n / 2 ^ e) (2 ^ p)) [
      | inl lt ↦ lt
      | inr ge ↦ let product : 2 ^ p * 2 ^ e ≤ n / 2 ^ e * 2 ^ e = mul-le (2 ^ p) (2 ^ e) (n / 2 ^ e) (2 ^ e) ge (omega arith) in absurd (omega (arith, h, pow-add 2 p e))
    ] in
    under n e p below
shrunk_small (negsuc n) e p h =
    let split = shr_split n e in
    let rest = mod_below n (2 ^ e) (pow_pos e) in
    let is = ap magnitude_of (product_below (n / 2 ^ e) (2 ^ e) (pow_pos e)) in
    omega (arith, is, h)

-- the shrunk block fits where the block does
fits_again : (w e : ℕ) (block again : List Iq) → BlockFits w e block → ((k : ℕ) → k < 24 → component again k ≡ shrunk_at e (component block k)) → BlockFits w e again
fits_again w e block again fits same =
    λ k h. subst (Within w) (sym (ap (λ z. floor_of z e) (same k h) ∙ floor_shrunk (component block k) e)) (fits k h)

-- the shrunk block has the same exponent, at two bits and more
same_exponent : (w e : ℕ) (block again : List Iq) → 2 ≤ w → IsExponent w block e → ((k : ℕ) → k < 24 → component again k ≡ shrunk_at e (component block k)) → IsExponent w again e
same_exponent w e block again low is same = record {
  small = is.small;
  fits = fits_again w e block again is.fits same;
  least = λ d h fits. is.least (e - 1) (omega arith) (λ k lt.
      let power : w - 1 + (e - 1) ≡ (w - 2) + e = omega arith in
      let again_small : magnitude_of (component again k) < 2 ^ (w - 1 + d) = of_within w d (component again k) (fits k lt) in
      let shrunk_is = ap magnitude_of (same k lt) in
      let most = power_le (w - 1 + d) (w - 1 + (e - 1)) (omega arith) in
      let here : magnitude_of (component block k) < 2 ^ ((w - 2) + e) = shrunk_small (component block k) e (w - 2) (omega (arith, again_small, shrunk_is, most, ap (λ j. 2 ^ j) power)) in
      within_of w (e - 1) (component block k) (omega (arith, here, ap (λ j. 2 ^ j) power)));
}

number_again : (method : Method) (block : List Iq) (k : ℕ) → k < 24 → component (samples_of (shrunk method block)) k ≡ shrunk_number method block k
unfolding shrunk
number_again method block k h = component_again (shrunk_number method block) k h

can_again : (method : Method) (block : List Iq) → CanPack method block → CanPack method (samples_of (shrunk method block))
can_again Plain block can = λ k h. subst (Within 16) (sym (number_again Plain block k h)) (can k h)
can_again (Bfp w) block can =
    (can.0, (has_exponent w (exponent_of w block) (samples_of (shrunk (Bfp w) block)) can.1.small (fits_again w (exponent_of w block) block _ can.1.fits (number_again (Bfp w) block))).0)

shrunk_shrunk : (method : Method) (block : List Iq) → CanPack method block → shrunk method (samples_of (shrunk method block)) ≡ shrunk method block
unfolding shrunk
shrunk_shrunk Plain block can = wide_block_same _ (shrunk_number Plain block) (λ k h. number_again Plain block k h)
shrunk_shrunk (Bfp w) block can =
    let again = samples_of (shrunk (Bfp w) block) in
    let less = (has_exponent w (exponent_of w block) again can.1.small (fits_again w (exponent_of w block) block again can.1.fits (number_again (Bfp w) block))).1 in
    wide_block_same _ (shrunk_number (Bfp w) block) (λ k h.
    ap (shrunk_at (exponent_of w again)) (number_again (Bfp w) block k h) ∙ shrunk_again (component block k) (exponent_of w again) (exponent_of w block) less)

-- packing the shrunk block and unpacking it gives the shrunk block
pub packed_again : (method : Method) (block : List Iq) → CanPack method block → unpacked_of method (packed_of method (samples_of (shrunk method block))) ≡ shrunk method block
packed_again method block can =
    unpacked_packed method (samples_of (shrunk method block)) (can_again method block can) ∙ shrunk_shrunk method block can

-- packing the shrunk block gives the bytes of the block, at two bits and more
pub same_bytes_again : (method : Method) (block : List Iq) → CanPack method block → KeepsBytes method → packed_of method (samples_of (shrunk method block)) ≡ packed_of method block
unfolding packed_of number_bytes
same_bytes_again Plain block can keeps =
    ap (be_bytes 48) (digits_same 16 _ (λ k. twos 16 (component block k)) 24 (λ k h. ap (twos 16) (number_again Plain block k h)))
same_bytes_again (Bfp w) block can keeps =
    let e = exponent_of w block in
    let again = samples_of (shrunk (Bfp w) block) in
    let is : e ≡ exponent_of w again = exponent_is w e again (same_exponent w e block again keeps can.1 (number_again (Bfp w) block)) in
    let mantissas : (k : ℕ) → k < 24 → mantissa w again k ≡ mantissa w block k =
    λ k h. ap (λ d. floor_of (component again k) d) (sym is) ∙ ap (λ z. floor_of z e) (number_again (Bfp w) block k h) ∙ floor_shrunk (component block k) e in
    ap (λ d. d ∷ number_bytes w (mantissa w again)) (sym is)
    ∙ ap (λ n. e ∷ be_bytes (3 * w) n) (digits_same w _ (λ k. twos w (mantissa w block k)) 24 (λ k h. ap (twos w) (mantissas k h)))

-- numbers of 16 bits can be packed
pub can_pack : (method : Method) (block : List Iq) → HasWidth method → ((k : ℕ) → k < 24 → Within 16 (component block k)) → CanPack method block
can_pack Plain block width within = within
can_pack (Bfp w) block width within = (
  width.0,
  (has_exponent w 15 block (omega arith) (λ k h.
      let few : magnitude_of (component block k) < 2 ^ 15 = magnitude_fits 16 (component block k) (within k h) in
      let most = power_le 15 (w - 1 + 15) (omega arith) in
      within_of w 15 (component block k) (omega (arith, few, most)))).0,
)

pub packed_small : (method : Method) (block : List Iq) → CanPack method block → (i : ℕ) → get_or (packed_of method block) i 0 < 256
unfolding packed_of
packed_small Plain block can i = number_bytes_small 16 (component block) i
packed_small (Bfp w) block can zero = omega (arith, can.1.small)
packed_small (Bfp w) block can (suc i) = number_bytes_small w (mantissa w block) i

pub length_unpacked : (method : Method) (bytes : List ℕ) → length (unpacked_of method bytes) ≡ 12
unfolding unpacked_of
length_unpacked Plain bytes = length-wide_block _
length_unpacked (Bfp w) bytes = length-wide_block _

pub length_shrunk : (method : Method) (block : List Iq) → length (shrunk method block) ≡ 12
unfolding shrunk
length_shrunk method block = length-wide_block (shrunk_number method block)
