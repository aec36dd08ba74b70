-- An offset counts from 2 ^ 63 s before none.
use Rattle.std.proofs.Common.{◌≡◌, ℕ, pos, ◌+◌, ◌-◌, ◌^◌, ◌%◌, ◌<◌, ◌≤◌, ◌+ℤ◌, ◌-ℤ◌, Bool, true, false, cond, ltb, refl, arith}
use Rattle.std.proofs.lemmas.Bool.{ltb-true, ltb-false}
use Rattle.std.proofs.lemmas.Int.{ints}
use Rattle.byteorder.specs.Endian.{twos_complement}
use Rattle.pcap_frames.specs.Times.{shifted}

by_sign : (b : Bool) (bits : ℕ) → bits < 2 ^ 64 → ltb bits (2 ^ 63) ≡ b → pos (shifted bits) ≡ cond b (pos bits) (pos bits -ℤ pos (2 ^ 64)) +ℤ pos (2 ^ 63)
by_sign true bits h e =
    let low : bits < 2 ^ 63 = ltb-true _ _ e in
    let is : (bits + 2 ^ 63) % 2 ^ 64 ≡ bits + 2 ^ 63 = omega (arith, low) in
    omega (arith, ints, is)
by_sign false bits h e =
    let high : 2 ^ 63 ≤ bits = ltb-false _ _ e in
    let is : (bits + 2 ^ 63) % 2 ^ 64 ≡ bits - 2 ^ 63 = omega (arith, high, h) in
    omega (arith, ints, is, high)

-- the offset of an interface is the signed number of its 64 bits, and 2 ^ 63 more
pub shifted_is : (bits : ℕ) → bits < 2 ^ 64 → pos (shifted bits) ≡ twos_complement 8 bits +ℤ pos (2 ^ 63)
shifted_is bits h = by_sign (ltb bits (2 ^ 63)) bits h refl
